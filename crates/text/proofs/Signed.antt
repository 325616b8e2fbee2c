-- Where a sign meets a magnitude in 64 bits: a magnitude below 10 ^ 10 as a signed number, and a signed number's magnitude.
use mathlib.Core.Path.{◌≡◌, refl, sym, ap, ◌∙◌}
use mathlib.Core.Bool.{Bool, true, false}
use Prim.Native.Nat.{ℕ, zero, suc, ◌+◌, ◌%◌, ◌^◌, ◌≤◌, ◌<◌}
use native.Mathlib.Omega.{arith}
use lib.IntN.{ℤ, pos, negsuc, nat_abs, ◌-ℤ◌}
use lib.Signed.{non_neg}
use mir.Syntax.{w64}
use mir.Val.{SFits, to_z, of_z}
use mir.Facts.{to_z-of_z, to_z_pos}
use borrow.Author.Tests.{lt-ltb}
use lib.ListN.{length}
use mathlib.Core.List.{List, [], ◌∷◌, ◌++◌}
use Rattle.text.specs.Ascii.{MINUS, ZERO}
use Rattle.text.specs.Number.{digits, decimal, Short, magnitude, negated, read_number, Magnitude, Number}
use Rattle.std.specs.Prelude.{Some}
use Rattle.std.specs.Fmt.{decimal as printed, signed_decimal}
use Rattle.std.proofs.lemmas.Fmt.{decimal_digit, decimal_step}
use Rattle.text.proofs.Digits.{digits_one, digits_last, by_digits, count_le}
use Rattle.text.proofs.NumberTexts.{number, digits_bounds, decimal_read}
use Rattle.text.proofs.Tests.{false_is_true}

pub short_fits : (v : ℤ) → Short v → SFits w64 v
short_fits (pos n) h = record { sfits = omega arith }
short_fits (negsuc n) h = record { sfits = omega arith }

-- ---- a magnitude as a signed number, and its negative

pub as_pos : (n : ℕ) → n < 10 ^ 10 → to_z w64 n ≡ pos n
as_pos n h = to_z_pos w64 (omega arith)

minus_is : (n : ℕ) → suc n < 10 ^ 10 → pos 0 -ℤ to_z w64 (suc n) ≡ negsuc n
minus_is n h = rw (as_pos (suc n) h, lt-ltb 0 (suc n) (omega arith)) (ap negsuc (omega arith))

pub minus_fits : (n : ℕ) → n < 10 ^ 10 → SFits w64 (pos 0 -ℤ to_z w64 n)
minus_fits zero h = record { sfits = omega arith }
minus_fits (suc n) h = rw (minus_is n h) (record { sfits = omega arith })

-- the digits that a text begins with, behind a minus
pub negated_is : (l : List ℕ) (m : Magnitude) → magnitude l ≡ Some m → (m.value ≡ 0 → ⊥)
    → number (to_z w64 (of_z w64 (pos 0 -ℤ to_z w64 m.value))) (m.count + 1) ≡ negated (magnitude l)
negated_is l m e z = go m.value m.count z (digits_bounds l m e).0 ∙ ap negated (sym e)
  where
    go : (n k : ℕ) → (n ≡ 0 → ⊥) → n < 10 ^ 10
        → number (to_z w64 (of_z w64 (pos 0 -ℤ to_z w64 n))) (k + 1) ≡ negated (Some (record { value = n; count = k }))
    go zero k z h = absurd (z refl)
    go (suc n) k z h = ap (λ (x : ℤ). number x (k + 1)) (to_z-of_z (minus_fits (suc n) h) ∙ minus_is n h)

-- ---- the text is what std prints

pub digits_is : (n : ℕ) → n < 2 ^ 64 → digits n ≡ printed n
digits_is =
    by_digits (λ n. n < 2 ^ 64 → digits n ≡ printed n)
    (λ n h f. digits_one n h ∙ sym (decimal_digit n h))
    (λ n h r f. digits_last n h ∙ ap (λ (l : List ℕ). l ++ (ZERO + n % 10) ∷ []) (r (omega arith)) ∙ sym (decimal_step n h f))

pub decimal_is : (v z : ℤ) → SFits w64 v → z ≡ v → signed_decimal z ≡ decimal v
unfolding decimal
decimal_is (pos n) z f e = rw e (sym (digits_is n (omega (arith, f.sfits))))
decimal_is (negsuc n) z f e = rw e (ap (λ (l : List ℕ). MINUS ∷ l) (sym (digits_is (suc n) (omega (arith, f.sfits)))))

-- ---- the text by sign and magnitude: z is v as the machine hands it on, and n its magnitude

pub text_plain : (v z : ℤ) (n : ℕ) → z ≡ v → non_neg z ≡ true → n ≡ nat_abs z → decimal v ≡ digits n
unfolding decimal
text_plain (pos m) z n i e a = rw (a, i)
text_plain (negsuc m) z n i e a = false_is_true (rw i at e)

pub text_minus : (v z : ℤ) (n : ℕ) → z ≡ v → non_neg z ≡ false → n ≡ nat_abs z → decimal v ≡ MINUS ∷ digits n
unfolding decimal
text_minus (pos m) z n i e a = let f : ◌≡◌ {A = Bool} true false = rw i at e in false_is_true (cc)
text_minus (negsuc m) z n i e a = rw (a, i)

-- at most twenty bytes
pub decimal_le : (v : ℤ) → SFits w64 v → length (decimal v) ≤ 20
unfolding decimal
decimal_le (pos n) h = omega (arith, count_le 18 n (omega (arith, h.sfits)))
decimal_le (negsuc n) h = omega (arith, count_le 18 (suc n) (omega (arith, h.sfits)))

-- a number that was read fits, and its text is short
pub number_bounds : (l : List ℕ) (n : Number) → read_number l ≡ Some n → SFits w64 n.value × (n.count ≤ 20)
number_bounds l n e =
    let h = decimal_read l n e in
    let f = short_fits n.value h.short in
    (f, omega (arith, h.counted, decimal_le n.value f))
