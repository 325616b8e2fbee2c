-- The magnitude is below 10 ^ 10, so that it and its negative fit.
use Rattle.std.proofs.Common.{sym, ◌∙◌, arith}
use Rattle.text.proofs.NumberTexts.{digits_bounds}
use Rattle.text.proofs.Signed.{minus_fits, negated_is}
use Rattle.text.proofs.number.read_negative.Goals as goal

pub overflow_cast-result : goal.overflow_cast-result
overflow_cast-result c = record { sfits = omega (arith, (digits_bounds _ _ (sym c.read_magnitude.ensures ∙ c.in_ok-m.was)).0) }

pub overflow_sub-result : goal.overflow_sub-result
overflow_sub-result c = minus_fits _ (digits_bounds _ _ (sym c.read_magnitude.ensures ∙ c.in_ok-m.was)).0

pub overflow_add-result : goal.overflow_add-result
overflow_add-result c = omega (arith, (digits_bounds _ _ (sym c.read_magnitude.ensures ∙ c.in_ok-m.was)).1)

pub returns : goal.returns
returns c = negated_is _ _ (sym c.read_magnitude.ensures ∙ c.in_ok-m.was) (λ e. omega (arith, e))
