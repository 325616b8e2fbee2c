use Rattle.std.proofs.Common.{rules, arith, ap, sym, ◌∙◌, ◌≡◌, ℕ, ◌+◌, ◌*◌, ◌/◌, ◌≤◌, ℤ, pos, get_or}
use mathlib.Core.Path.{subst}
use mir.Syntax.{w16}
use mir.Val.{SFits}
use Rattle.fixed.specs.Number.{minus, Is, sat, scaled_by}
use Rattle.fixed.proofs.Wide.{E, add, at1, call, read, same, shr, sub, to, var}
use Rattle.fixed.proofs.Half.{ans, h2, half, wide_h}
use Rattle.band.specs.Tables.{QM2, QM4}
use Rattle.band.specs.Quantise.{QUANTL, QUANTH}
use Rattle.band.specs.Adapt.{LOGSCH, LOGSCL, SCALEH, SCALEL, high_update, low_update, updated}
use Rattle.band.proofs.Codes.{quantl_most, quanth_most}
use Rattle.step.specs.Qmf.{taking, even_sum, odd_sum}
use Rattle.step.specs.Step.{encode_step}
use Rattle.step.proofs.Entries.{four, in_four, in_two, two}
use Rattle.step.proofs.encode_step.Goals as goal

-- a sum in its range
ranged : {v r : ℤ} → Is (minus 212402176) (pos 212402176) v r → E (minus 212402176) (pos 212402176) r r
ranged e = var e.range tt

-- the codes' ranges
low_most : {r : ℕ} (e d : ℤ) → r ≡ QUANTL e d → r ≤ 63
low_most e d g = subst (λ (n : ℕ). n ≤ 63) (sym g) (quantl_most _ _)

high_most : {r : ℕ} (e d : ℤ) → r ≡ QUANTH e d → r ≤ 3
high_most e d g = subst (λ (n : ℕ). n ≤ 3) (sym g) (quanth_most _ _)

pub overflow_sub-xlow : goal.overflow_sub-xlow
overflow_sub-xlow c =
    let s : SFits w16 c.args.f.low.s = search rules in
    let xlow = same (shr (add (ranged c.sum-sums.ensures.0) (ranged c.sum-sums.ensures.1) tt) 14 tt) c.transmitted-xlow.ensures in
    (sub xlow (wide_h (half s)) tt).fits

pub bounds-ril : goal.bounds-ril
bounds-ril c = omega (arith, low_most _ _ c.quantl-ilow.ensures)

pub low_update-new_low-requires : goal.low_update-new_low-requires
low_update-new_low-requires c =
    (omega (arith, low_most _ _ c.quantl-ilow.ensures), in_four _)

pub overflow_sub-xhigh : goal.overflow_sub-xhigh
overflow_sub-xhigh c =
    let s : SFits w16 c.args.f.high.s = search rules in
    let xhigh = same (shr (sub (ranged c.sum-sums.ensures.0) (ranged c.sum-sums.ensures.1) tt) 14 tt) c.transmitted-xhigh.ensures in
    (sub xhigh (wide_h (half s)) tt).fits

pub bounds-code : goal.bounds-code
bounds-code c = omega (arith, high_most _ _ c.quanth-ihigh.ensures)

pub high_update-new_high-requires : goal.high_update-new_high-requires
high_update-new_high-requires c =
    (omega (arith, high_most _ _ c.quanth-ihigh.ensures), in_two _)

pub overflow_mul-byte : goal.overflow_mul-byte
overflow_mul-byte c = omega (arith, high_most _ _ c.quanth-ihigh.ensures)

pub overflow_add-byte : goal.overflow_add-byte
overflow_add-byte c = omega (arith, high_most _ _ c.quanth-ihigh.ensures, low_most _ _ c.quantl-ilow.ensures)

pub returns : goal.returns
unfolding encode_step low_update high_update
returns c =
    let f = c.args.f in
    let low_s : SFits w16 f.low.s = search rules in
    let low_det : SFits w16 f.low.det = search rules in
    let high_s : SFits w16 f.high.s = search rules in
    let high_det : SFits w16 f.high.det = search rules in
    let x = c.shifted-x.ensures ∙ h2 (half c.ranges.a) (half c.ranges.b) (taking f.x) in
    let even = call c.sum-sums.ensures.0 (ap even_sum x) tt in
    let odd = call c.sum-sums.ensures.1 (ap odd_sum x) tt in
    let xlow = same (shr (add even odd tt) 14 tt) c.transmitted-xlow.ensures in
    let xhigh = same (shr (sub even odd tt) 14 tt) c.transmitted-xhigh.ensures in
    let el = ans c.saturate-el.ensures (at1 (sub xlow (wide_h (half low_s)) tt) sat) c.saturate-el.type_inv in
    let eh = ans c.saturate-eh.ensures (at1 (sub xhigh (wide_h (half high_s)) tt) sat) c.saturate-eh.type_inv in
    let ilow = c.quantl-ilow.ensures ∙ h2 el (half low_det) QUANTL in
    let ihigh = c.quanth-ihigh.ensures ∙ h2 eh (half high_det) QUANTH in
    let low = c.low_update-new_low.ensures
    ∙ λ t. updated LOGSCL SCALEL f.low (scaled_by f.low.det (read (to (four _) (ap (λ (n : ℕ). get_or QM4 (n / 4) (pos 0)) ilow)) t)) (ilow t / 4) in
    let high = c.high_update-new_high.ensures
    ∙ λ t. updated LOGSCH SCALEH f.high (scaled_by f.high.det (read (to (two _) (ap (λ (n : ℕ). get_or QM2 n (pos 0)) ihigh)) t)) (ihigh t) in
    λ t. record { filters = record { x = x t; low = low t; high = high t }; byte = 64 * ihigh t + ilow t }
