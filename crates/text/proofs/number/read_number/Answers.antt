-- By whether a minus stands in front.
use Rattle.std.proofs.Common.{◌≡◌, sym, ap, ◌∙◌, true, false, List, ℕ, drop}
use Rattle.text.specs.Ascii.{MINUS}
use Rattle.text.specs.Number.{begins, magnitude, plain, negated, read_number}
use Rattle.text.proofs.number.read_number.Goals as goal

minus : (l m : List ℕ) → begins MINUS l ≡ true → m ≡ drop 1 l → negated (magnitude m) ≡ read_number l
unfolding read_number
minus l m e f = rw (e, f)

no_minus : (l : List ℕ) → begins MINUS l ≡ false → plain (magnitude l) ≡ read_number l
unfolding read_number
no_minus l e = rw e

pub returns-then-begins : goal.returns-then-begins
returns-then-begins c =
    c.read_negative.ensures ∙ minus c.rest-text.result.now _ (sym c.if-begins.ensures) c.rest.ensures
    ∙ ap read_number c.rest-text.ensures

pub returns : goal.returns
returns c =
    c.read_plain.ensures ∙ no_minus c.rest-text.result.now (sym c.if-begins.ensures)
    ∙ ap read_number c.rest-text.ensures
