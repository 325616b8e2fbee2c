-- By whether a tab stands in front; a number that was read fits, and takes at most twenty bytes.
use Rattle.std.proofs.Common.{◌≡◌, sym, ap, ◌∙◌, true, false, Option, Some, None, List, ℕ, ◌+◌, ℤ, drop, arith, to_z-of_z}
use Rattle.text.specs.Ascii.{TAB}
use Rattle.text.specs.Number.{begins, read_number, Number}
use Rattle.text.specs.Fields.{after_tab, read_field}
use Rattle.text.proofs.NumberTexts.{number}
use Rattle.text.proofs.Signed.{number_bounds}
use Rattle.text.proofs.fields.read_field.Goals as goal

tab : (l : List ℕ) (n : Option Number) → begins TAB l ≡ true → n ≡ read_number (drop 1 l) → after_tab n ≡ read_field l
unfolding read_field
tab l n e f = rw (e, f)

no_tab : (l : List ℕ) → begins TAB l ≡ false → None ≡ read_field l
unfolding read_field
no_tab l e = rw e

pub returns-then-not-begins : goal.returns-then-not-begins
returns-then-not-begins c = no_tab c.args.s.now (sym c.if-not-begins.ensures)

pub returns-in_err-n : goal.returns-in_err-n
returns-in_err-n c = c.from_residual.ensures ∙ tab c.args.s.now None (sym c.if-not-begins.ensures) c.in_err-n.ensures

pub overflow_add-result : goal.overflow_add-result
overflow_add-result c = omega (arith, (number_bounds _ _ (sym c.in_ok-n.ensures)).1)

pub returns : goal.returns
returns c =
    let n = c.in_ok-n.n in
    ap (λ (v : ℤ). number v (n.count + 1)) (to_z-of_z (number_bounds _ n (sym c.in_ok-n.ensures)).0)
    ∙ tab c.args.s.now (Some n) (sym c.if-not-begins.ensures) c.in_ok-n.ensures
