use Rattle.std.proofs.Common.{rules, arith, refl, ap, sym, ◌∙◌, ◌≡◌, ◌+◌, ◌-◌, ◌*◌, true, List, ℤ, pos, ◌+ℤ◌, ◌*ℤ◌, add-one, get_or}
use mir.Syntax.{w16}
use mir.Val.{SFits}
use Rattle.fixed.specs.Number.{minus, In, Is}
use Rattle.fixed.proofs.Wide.{E, add, call, rd, read, same, var}
use Rattle.fixed.proofs.Half.{entry16, h2, half}
use Rattle.band.specs.Tables.{QMF_COEFFS}
use Rattle.band.specs.Bounds.{all_words}
use Rattle.band.proofs.Boxes.{array_words}
use Rattle.step.proofs.Dot.{even_up_to, even_all, even_in, even_next, even_none, odd_up_to, odd_all, odd_in, odd_next, odd_none}
use Rattle.step.proofs.qmf.sum.Goals as goal

-- a sum so far and one product more
more : {s z r p q : ℤ} → s ≡ z → In (minus 212402176) (pos 212402176) z → Is (minus 1073741824) (pos 1073741824) p r → p ≡ q
    → E (minus 1286144000) (pos 1286144000) (s +ℤ rd r) (z +ℤ q)
more {r = r} e i a g =
    let z = var i tt in
    same (add z (call a g tt) tt) (λ t. (e ∙ sym (read z)) t +ℤ rd r)

pub loop-i-init : goal.loop-i-init
loop-i-init c = record { even_so_far = even_none c.args.x; odd_so_far = odd_none c.args.x }

pub overflow_add-odd : goal.overflow_add-odd
overflow_add-odd c =
    let w : all_words c.args.x ≡ true = search array_words in
    (more c.loop-i.invariant.odd_so_far (odd_in c.args.x w c.loop-i.i) c.product-odd.ensures refl).fits

pub overflow_add-even : goal.overflow_add-even
overflow_add-even c =
    let w : all_words c.args.x ≡ true = search array_words in
    (more c.loop-i.invariant.even_so_far (even_in c.args.x w c.loop-i.i) c.product-even.ensures refl).fits

pub loop-i-preserved : goal.loop-i-preserved
loop-i-preserved c =
    let x : List ℤ = c.args.x in
    let i = c.loop-i.i in
    let w : all_words x ≡ true = search array_words in
    let fits_a : SFits w16 (get_or x (2 * i) (pos 0)) = search rules in
    let fits_b : SFits w16 (get_or x (2 * i + 1) (pos 0)) = search rules in
    let q = entry16 QMF_COEFFS tt refl in
    let odd = more c.loop-i.invariant.odd_so_far (odd_in x w i) c.product-odd.ensures (h2 (half fits_a) (q i) ◌*ℤ◌) in
    let even = more c.loop-i.invariant.even_so_far (even_in x w i) c.product-even.ensures (h2 (half fits_b) (q (11 - i)) ◌*ℤ◌) in
    record {
      even_so_far = read even ∙ even_next x i c.loop-i-test.true ∙ ap (even_up_to x) (sym (add-one i));
      odd_so_far = read odd ∙ odd_next x i ∙ ap (odd_up_to x) (sym (add-one i));
    }

pub returns : goal.returns
returns c =
    let x : List ℤ = c.args.x in
    let i = c.loop-i.i in
    let w : all_words x ≡ true = search array_words in
    let all : i ≡ 12 = omega arith in (
      rw c.loop-i.invariant.even_so_far (record { is = ap (even_up_to x) all ∙ even_all x; range = even_in x w i }),
      rw c.loop-i.invariant.odd_so_far (record { is = ap (odd_up_to x) all ∙ odd_all x; range = odd_in x w i }),
    )
