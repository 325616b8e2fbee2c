use Rattle.std.proofs.Common.{rules, arith, ap, ◌∙◌, ◌%◌, ◌/◌, ℤ, ◌+ℤ◌}
use mir.Syntax.{w16}
use mir.Val.{SFits}
use Rattle.fixed.specs.Number.{scaled_by}
use Rattle.fixed.proofs.Wide.{add, at1, call, narrow_fits, sub, var, wide}
use Rattle.fixed.proofs.Half.{ans, h2, half, readh, scales, thin}
use Rattle.band.specs.Adapt.{LOGSCH, LOGSCL, SCALEH, SCALEL, high_update, low_update, updated}
use Rattle.step.specs.Qmf.{taking, even_sum, odd_sum, received}
use Rattle.step.specs.Step.{LIMIT, decode_step}
use Rattle.step.proofs.Entries.{entries, four, in_two, six, two}
use Rattle.step.proofs.decode_step.Goals as goal

pub invq-dlow_of_six-requires : goal.invq-dlow_of_six-requires
invq-dlow_of_six-requires c = search entries

pub invq-dhigh-requires : goal.invq-dhigh-requires
invq-dhigh-requires c = in_two _

-- the range of q is that of either table
pub low_update-new_low-requires : goal.low_update-new_low-requires
low_update-new_low-requires c = (omega arith, search entries)

pub high_update-new_high-requires : goal.high_update-new_high-requires
high_update-new_high-requires c = (omega arith, in_two _)

pub overflow_add-rlow : goal.overflow_add-rlow
overflow_add-rlow c = (add (var c.limited-rlow.ensures.range tt) (var c.limited-rhigh.ensures.range tt) tt).fits

pub overflow_cast-rlow : goal.overflow_cast-rlow
overflow_cast-rlow c = narrow_fits (wide (add (var c.limited-rlow.ensures.range tt) (var c.limited-rhigh.ensures.range tt) tt) _ _ tt tt tt)

pub overflow_sub-rlow : goal.overflow_sub-rlow
overflow_sub-rlow c = (sub (var c.limited-rlow.ensures.range tt) (var c.limited-rhigh.ensures.range tt) tt).fits

pub overflow_cast-rlow-2 : goal.overflow_cast-rlow-2
overflow_cast-rlow-2 c = narrow_fits (wide (sub (var c.limited-rlow.ensures.range tt) (var c.limited-rhigh.ensures.range tt) tt) _ _ tt tt tt)

pub returns : goal.returns
unfolding decode_step low_update high_update
returns c =
    let f = c.args.f in
    let ilow = c.args.byte % 64 in
    let ihigh = c.args.byte / 64 in
    let low_s : SFits w16 f.low.s = search rules in
    let low_det : SFits w16 f.low.det = search rules in
    let high_s : SFits w16 f.high.s = search rules in
    let high_det : SFits w16 f.high.det = search rules in
    let dlow = ans c.invq-dlow_of_six.ensures (scales (half low_det) (six ilow)) c.invq-dlow_of_six.type_inv in
    let dhigh = ans c.invq-dhigh.ensures (scales (half high_det) (two ihigh)) c.invq-dhigh.type_inv in
    let rlow = call c.limited-rlow.ensures (h2 (half low_s) dlow (λ (y z : ℤ). LIMIT (y +ℤ z))) tt in
    let rhigh = call c.limited-rhigh.ensures (h2 (half high_s) dhigh (λ (y z : ℤ). LIMIT (y +ℤ z))) tt in
    let a = thin (wide (add rlow rhigh tt) _ _ tt tt tt) in
    let b = thin (wide (sub rlow rhigh tt) _ _ tt tt tt) in
    let x = c.shifted-x.ensures ∙ h2 a b (taking f.x) in
    let even = call c.sum-sums.ensures.0 (ap even_sum x) tt in
    let odd = call c.sum-sums.ensures.1 (ap odd_sum x) tt in
    let first = ans c.received-first.ensures (at1 even received) c.received-first.type_inv in
    let second = ans c.received-second.ensures (at1 odd received) c.received-second.type_inv in
    let low = c.low_update-new_low.ensures
    ∙ at1 (four (ilow / 4)) (λ (q : ℤ). updated LOGSCL SCALEL f.low (scaled_by f.low.det q) (ilow / 4)) in
    let high = c.high_update-new_high.ensures
    ∙ at1 (two ihigh) (λ (q : ℤ). updated LOGSCH SCALEH f.high (scaled_by f.high.det q) ihigh) in
    λ t. record {
      filters = record { x = x t; low = low t; high = high t };
      first = readh first t;
      second = readh second t;
    }
