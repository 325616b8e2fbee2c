-- Where the fields are taken, the buffer holds their numbers and nothing else.
use Rattle.std.proofs.Common.{◌≡◌, refl, sym, ap, ◌∙◌, Bool, true, false, cond, ◌&&◌, Option, Some, None, List, ℕ, ℤ, pos, length, get_or}
use Rattle.std.proofs.lemmas.List.Edits.{sets}
use Rattle.std.specs.Int.Signed.{non_neg}
use Rattle.std.specs.Bool.{then_some}
use Rattle.text.specs.Fields.{Fields, read_fields}
use Rattle.text.proofs.Buffer.{sets_all}
use Rattle.text.proofs.FieldTexts.{fields_read}
use Rattle.line.specs.Line.{plain_two, unsigned}
use Rattle.line.proofs.read_numbers.Goals.{After-then_some, then-no_minus, else-no_minus}
use Rattle.line.proofs.read_numbers.Goals as goal

faulty : (f : Fields) → None ≡ f.ending → None ≡ unsigned f
unfolding unsigned
faulty f e = rw (← e) (same (plain_two f.numbers))
  where
    same : (b : Bool) → ◌≡◌ {A = Option ℕ} None (cond b None None)
    same true = refl
    same false = refl

-- q is the buffer after reading, and x the test of its first two numbers
answer : (o : List ℤ) (l : List ℕ) (q : List ℤ) (c : ℕ) (x : Bool) → Some c ≡ (read_fields (length o) l).ending
    → q ≡ sets o 0 (read_fields (length o) l).numbers → x ≡ plain_two q → then_some x c ≡ unsigned (read_fields (length o) l)
unfolding unsigned
answer o l q c x f e g =
    let w : q ≡ (read_fields (length o) l).numbers = e ∙ sets_all o (read_fields (length o) l).numbers (fields_read (length o) l c (sym f)).many in
    rw (g, w, ← f) (same (plain_two (read_fields (length o) l).numbers))
  where
    same : (t : Bool) → then_some t c ≡ cond t (Some c) None
    same true = refl
    same false = refl

first_two : (c : After-then_some) → c.if-no_minus.then_some ≡ plain_two c.read_fields.new.out
unfolding plain_two
first_two c =
    let second : Bool = non_neg (get_or c.read_fields.new.out 1 (pos 0)) in
    elim c.if-no_minus.branch [
      | then-no_minus w ↦ w.then_some-is ∙ w.no_minus-then-no_minus.ensures ∙ ap (λ (b : Bool). b && second) w.if-no_minus.ensures
      | else-no_minus w ↦ w.then_some-is ∙ w.if-no_minus.false ∙ ap (λ (b : Bool). b && second) w.if-no_minus.ensures
    ]

pub returns-in_err-count-clause-value : goal.returns-in_err-count-clause-value
returns-in_err-count-clause-value c = c.from_residual.ensures ∙ faulty _ c.in_err-count.ensures.value

pub returns-clause-value : goal.returns-clause-value
returns-clause-value c =
    c.then_some.ensures
    ∙ answer c.args.out.now c.args.s.now _ c.in_ok-count.count _ c.in_ok-count.ensures.value c.read_fields.ensures.out_after
    (first_two c)
