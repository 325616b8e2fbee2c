-- The digits that a text begins with: how many they are and what number they say, of any text and of the digits of a number.
use mathlib.Core.Path.{◌≡◌, refl, sym, ap, ◌∙◌}
use mathlib.Core.Bool.{Bool, true, not, ◌&&◌, ◌||◌}
use mathlib.Core.List.{List, [], ◌∷◌, ◌++◌, append_assoc, append-nil}
use Prim.Native.Nat.{ℕ, zero, suc, ◌+◌, ◌-◌, ◌*◌, ◌/◌, ◌%◌, ◌≤◌, ◌<◌}
use native.Mathlib.Omega.{arith}
use lib.ListN.{length, take, drop, get_or}
use lib.Dec.{ltb, leb, eqb}
use borrow.Author.Tests.{le-leb, leb-true, eqb-true, eqb-false}
use Rattle.std.specs.Char.{is_ascii_digit}
use Rattle.std.specs.List.{prefix_len}
use Rattle.std.proofs.lemmas.List.Sums.{prefix_len-le-length}
use Rattle.text.specs.Ascii.{ZERO, NINE}
use Rattle.text.specs.Number.{digits, begins, digit, run, value, allowed}
use Rattle.text.proofs.Tests.{Test, yes!, no!, test, false_is_true, both}
use Rattle.text.proofs.Digits.{digits_one, digits_last, digits_then, by_digits, count_more}

-- ---- a digit among those that a text begins with

pub record DigitAt (l : List ℕ) (i : ℕ) : Type 0 where
  pub low : ZERO ≤ get_or l i 0
  pub high : get_or l i 0 ≤ NINE

pub digit_at : (l : List ℕ) (i : ℕ) → i < run l → DigitAt l i
unfolding run
digit_at [] i h = absurd (omega arith)
digit_at (b ∷ t) i h = go (test (digit b)) i h (digit_at t)
  where
    go : Test (digit b) → (i : ℕ) → i < run (b ∷ t) → ((j : ℕ) → j < run t → DigitAt t j) → DigitAt (b ∷ t) i
    go (no! e) i h r = absurd (let z : i < 0 = rw e at h in omega arith)
    go (yes! e) zero h r = let d = both _ _ e in record { low = leb-true ZERO _ d.0; high = leb-true _ NINE d.1 }
    go (yes! e) (suc i) h r =
        let z : suc i < suc (run t) = rw e at h in
        let d = r i (omega arith) in
        record { low = d.low; high = d.high }

-- ---- how many

-- the digits are those in front that pass the library's test
pub prefix_is : (l : List ℕ) → prefix_len is_ascii_digit l ≡ run l
unfolding run
prefix_is [] = refl
prefix_is (b ∷ t) = go (test (digit b)) (prefix_is t)
  where
    go : Test (digit b) → prefix_len is_ascii_digit t ≡ run t → prefix_len is_ascii_digit (b ∷ t) ≡ run (b ∷ t)
    go (yes! e) h = rw (e, h) (omega arith)
    go (no! e) h = rw e

pub run_le : (l : List ℕ) → run l ≤ length l
run_le l = omega (arith, prefix_is l, prefix_len-le-length is_ascii_digit l)

-- the digits alone are all digits
pub run_alone : (l : List ℕ) → run (take (run l) l) ≡ run l
unfolding run
run_alone [] = refl
run_alone (b ∷ t) = go (test (digit b)) (run_alone t)
  where
    go : Test (digit b) → run (take (run t) t) ≡ run t → run (take (run (b ∷ t)) (b ∷ t)) ≡ run (b ∷ t)
    go (yes! e) h = rw (e, e) (ap suc h)
    go (no! e) h = rw e

pub run_after : (l : List ℕ) → run (drop (run l) l) ≡ 0
unfolding run
run_after [] = refl
run_after (b ∷ t) = go (test (digit b)) (run_after t)
  where
    go : Test (digit b) → run (drop (run t) t) ≡ 0 → run (drop (run (b ∷ t)) (b ∷ t)) ≡ 0
    go (yes! e) h = rw e h
    go (no! e) h = rw (e, e)

digit_yes : (b : ℕ) (t : List ℕ) → ZERO ≤ b → b ≤ NINE → run (b ∷ t) ≡ suc (run t)
unfolding run
digit_yes b t h k = rw (le-leb ZERO b h, le-leb b NINE k)

pub run_digits : (n : ℕ) (t : List ℕ) → run (digits n ++ t) ≡ length (digits n) + run t
run_digits =
    by_digits (λ n. (t : List ℕ) → run (digits n ++ t) ≡ length (digits n) + run t)
    (λ n h t. rw (digits_one n h) (digit_yes (ZERO + n) t (omega arith) (omega arith) ∙ omega arith))
    (λ n h r t.
    ap run (digits_then n t h) ∙ r ((ZERO + n % 10) ∷ t)
    ∙ omega (arith, count_more n h, digit_yes (ZERO + n % 10) t (omega arith) (omega arith)))

-- ---- what number

pub value_last : (a : ℕ) (l : List ℕ) (b : ℕ) → value a (l ++ b ∷ []) ≡ value a l * 10 + (b - ZERO)
unfolding value
value_last a [] b = refl
value_last a (x ∷ l) b = value_last (a * 10 + (x - ZERO)) l b

pub value_digits : (n : ℕ) → value 0 (digits n) ≡ n
unfolding value
value_digits =
    by_digits (λ n. value 0 (digits n) ≡ n)
    (λ n h. rw (digits_one n h) (omega arith))
    (λ n h r. ap (value 0) (digits_last n h) ∙ value_last 0 (digits (n / 10)) (ZERO + n % 10) ∙ omega (arith, r))

-- digits that follow those of a number above 0
digits_value : (a : ℕ) (l : List ℕ) → 0 < a → digits (value a (take (run l) l)) ≡ digits a ++ take (run l) l
unfolding value run
digits_value a [] p = sym (append-nil (digits a))
digits_value a (b ∷ t) p = go (test (digit b)) (digits_value (a * 10 + (b - ZERO)) t)
  where
    go : Test (digit b)
        → (0 < a * 10 + (b - ZERO) → digits (value (a * 10 + (b - ZERO)) (take (run t) t)) ≡ digits (a * 10 + (b - ZERO)) ++ take (run t) t)
        → digits (value a (take (run (b ∷ t)) (b ∷ t))) ≡ digits a ++ take (run (b ∷ t)) (b ∷ t)
    go (no! e) r = rw e (sym (append-nil (digits a)))
    go (yes! e) r =
        let d = both _ _ e in
        let low : ZERO ≤ b = leb-true ZERO b d.0 in
        let high : b ≤ NINE = leb-true b NINE d.1 in
        let n : (a * 10 + (b - ZERO)) / 10 ≡ a = omega arith in
        let m : ZERO + (a * 10 + (b - ZERO)) % 10 ≡ b = omega arith in
        rw e
        (r (omega arith)
        ∙ rw (digits_last (a * 10 + (b - ZERO)) (omega arith), n, m) (append_assoc (digits a) (b ∷ []) (take (run t) t)))

-- at most ten digits are allowed, and a zero in front stands alone
pub at_most_ten : (n : ℕ) (z : Bool) → allowed n z ≡ true → n ≤ 10
at_most_ten n z h = leb-true n 10 (both (ltb 0 n) (leb n 10) (both (ltb 0 n && leb n 10) (eqb n 1 || not z) h).0).1

alone : (n : ℕ) (z : Bool) → allowed n z ≡ true → z ≡ true → n ≡ 1
alone n z h e = go (test (eqb n 1)) (both (ltb 0 n && leb n 10) (eqb n 1 || not z) h).1
  where
    go : Test (eqb n 1) → (eqb n 1 || not z) ≡ true → n ≡ 1
    go (yes! f) a = eqb-true n 1 f
    go (no! f) a = false_is_true (rw (f, e) at a)

-- the digits that a text begins with are those of what they say, where they are allowed
pub digits_read : (l : List ℕ) → allowed (run l) (begins ZERO l) ≡ true → digits (value 0 (take (run l) l)) ≡ take (run l) l
unfolding value run begins
digits_read [] h = false_is_true h
digits_read (b ∷ t) h = go (test (digit b)) (test (eqb b ZERO))
  where
    go : Test (digit b) → Test (eqb b ZERO) → digits (value 0 (take (run (b ∷ t)) (b ∷ t))) ≡ take (run (b ∷ t)) (b ∷ t)
    go (no! e) z = false_is_true (rw e at h)
    go (yes! e) (yes! z) =
        let b0 : b ≡ ZERO = eqb-true b ZERO z in
        let one : suc (run t) ≡ 1 = alone (suc (run t)) (eqb b ZERO) (rw e at h) z in
        let none : run t ≡ 0 = omega (arith, one) in
        rw (e, none, b0) (digits_one 0 (omega arith))
    go (yes! e) (no! z) =
        let d = both _ _ e in
        let low : ZERO ≤ b = leb-true ZERO b d.0 in
        let high : b ≤ NINE = leb-true b NINE d.1 in
        let n0 : 0 < 0 * 10 + (b - ZERO) = omega (arith, eqb-false b ZERO z) in
        let back : ZERO + (0 * 10 + (b - ZERO)) ≡ b = omega arith in
        rw e (digits_value (0 * 10 + (b - ZERO)) t n0 ∙ rw (digits_one (0 * 10 + (b - ZERO)) (omega arith), back))
