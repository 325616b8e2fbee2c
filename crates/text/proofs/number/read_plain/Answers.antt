-- The magnitude is below 10 ^ 10, so that it fits.
use Rattle.std.proofs.Common.{sym, ap, ◌∙◌, ℤ, arith}
use Rattle.text.specs.Number.{plain}
use Rattle.text.proofs.NumberTexts.{number, digits_bounds}
use Rattle.text.proofs.Signed.{as_pos}
use Rattle.text.proofs.number.read_plain.Goals as goal

pub overflow_cast-result : goal.overflow_cast-result
overflow_cast-result c = record { sfits = omega (arith, (digits_bounds _ _ (sym c.read_magnitude.ensures ∙ c.in_ok-m.was)).0) }

pub returns : goal.returns
returns c =
    let r = sym c.read_magnitude.ensures ∙ c.in_ok-m.was in
    ap (λ (v : ℤ). number v c.in_ok-m.m.count) (as_pos c.in_ok-m.m.value (digits_bounds _ _ r).0) ∙ ap plain (sym r)
