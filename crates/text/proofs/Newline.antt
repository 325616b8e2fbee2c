-- The text of some numbers is one line; and a line at the front of a buffer is what stands there up to the first newline.
use mathlib.Core.Path.{◌≡◌, refl, sym, ap, ◌∙◌}
use mathlib.Core.List.{List, [], ◌∷◌, ◌++◌, append_assoc}
use Prim.Native.Nat.{ℕ, suc, ◌+◌, ◌/◌, ◌%◌}
use native.Mathlib.Omega.{arith}
use lib.IntN.{ℤ, pos, negsuc}
use borrow.Author.Tests.{ne_eqb}
use Rattle.text.specs.Ascii.{TAB, NEWLINE, ZERO}
use Rattle.text.specs.Newline.{NoNewline, OneLine, first_line}
use Rattle.text.specs.Number.{digits, decimal}
use Rattle.text.specs.Fields.{fields_text}
use Rattle.text.proofs.Digits.{digits_one, digits_last, by_digits}

clean_append : (l m : List ℕ) → NoNewline l → NoNewline m → NoNewline (l ++ m)
clean_append [] m a b = b
clean_append (x ∷ l) m a b = (a.0, clean_append l m a.1 b)

clean_digits : (n : ℕ) → NoNewline (digits n)
clean_digits =
    by_digits (λ n. NoNewline (digits n))
    (λ n h. rw (digits_one n h) (λ e. omega (arith, e), tt))
    (λ n h r. rw (digits_last n h) (clean_append (digits (n / 10)) ((ZERO + n % 10) ∷ []) r (λ e. omega (arith, e), tt)))

clean_decimal : (v : ℤ) → NoNewline (decimal v)
unfolding decimal
clean_decimal (pos n) = clean_digits n
clean_decimal (negsuc n) = (λ e. omega (arith, e), clean_digits (suc n))

pub fields_one_line : (vs : List ℤ) → OneLine (fields_text vs)
unfolding fields_text
fields_one_line [] = record { body = []; text = refl; clean = tt }
fields_one_line (v ∷ vs) =
    let r = fields_one_line vs in
    record {
      body = TAB ∷ (decimal v ++ r.body);
      text = ap (λ (m : List ℕ). TAB ∷ (decimal v ++ m)) r.text ∙ ap (λ (m : List ℕ). TAB ∷ m) (sym (append_assoc (decimal v) _ _));
      clean = (λ e. omega (arith, e), clean_append (decimal v) r.body (clean_decimal v) r.clean);
    }

first_by : (body rest : List ℕ) → NoNewline body → first_line ((body ++ NEWLINE ∷ []) ++ rest) ≡ body ++ NEWLINE ∷ []
unfolding first_line
first_by [] rest c = refl
first_by (b ∷ body) rest c = rw (ne_eqb b NEWLINE c.0, first_by body rest c.1)

pub first_line_lem : {l : List ℕ} → OneLine l → (rest : List ℕ) → first_line (l ++ rest) ≡ l
first_line_lem o rest = rw o.text (first_by o.body rest o.clean)
