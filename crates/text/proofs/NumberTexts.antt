-- A text begins with a number exactly where it begins with that number's own text, of at most ten digits, and no digit follows.
use mathlib.Core.Path.{◌≡◌, refl, sym, ap, ◌∙◌}
use mathlib.Core.Bool.{Bool, true, false, not, ◌||◌}
use mathlib.Core.List.{List, [], ◌∷◌, ◌++◌}
use mathlib.Core.Logic.{◌↔◌}
use Rattle.std.specs.Prelude.{Option, Some, None}
use Prim.Native.Nat.{ℕ, zero, suc, ◌+◌, ◌^◌, ◌≤◌, ◌<◌}
use native.Mathlib.Numerals.{add-one}
use native.Mathlib.Omega.{arith}
use lib.Dec.{eqb}
use lib.IntN.{ℤ, pos, negsuc}
use lib.ListN.{length, take, drop, take-append-drop}
use lib.Seq.{take_at, length-take-le}
use borrow.Author.Tests.{lt-ltb, le-leb, eqb-true}
use Rattle.text.specs.Ascii.{MINUS, ZERO}
use Rattle.text.specs.Number.{digits, decimal, Short, begins, run, value, allowed, magnitude, plain, negated, read_number, NumberOf, Magnitude, Number}
use Rattle.text.proofs.Tests.{Test, yes!, no!, test, some_is, none_some, false_is_true, Below, small, large, below}
use Rattle.text.proofs.Digits.{count_one, count_some, count_le, below_pow, no_zero, no_minus}
use Rattle.text.proofs.Scan.{at_most_ten, run_le, run_after, run_digits, value_digits, digits_read}

pub begins_split : (b : ℕ) (l : List ℕ) → begins b l ≡ true → l ≡ b ∷ drop 1 l
unfolding begins
begins_split b [] e = false_is_true e
begins_split b (x ∷ l) e = ap (λ (y : ℕ). y ∷ l) (eqb-true x b e)

-- ---- reading what was written

allowed_digits : (n : ℕ) (t : List ℕ) → n < 10 ^ 10 → allowed (length (digits n)) (begins ZERO (digits n ++ t)) ≡ true
allowed_digits n t h =
    rw (lt-ltb 0 (length (digits n)) (omega (arith, count_some n)), le-leb (length (digits n)) 10 (count_le 9 n h)) (go (below n 10))
  where
    or_true : (a : Bool) → (a || true) ≡ true
    or_true true = refl
    or_true false = refl

    go : Below n 10 → (eqb (length (digits n)) 1 || not (begins ZERO (digits n ++ t))) ≡ true
    go (small k) = rw (count_one n k)
    go (large k) = rw (no_zero n t (omega arith)) (or_true (eqb (length (digits n)) 1))

read_digits : (n : ℕ) (t : List ℕ) → n < 10 ^ 10 → run t ≡ 0
    → magnitude (digits n ++ t) ≡ Some (record { value = n; count = length (digits n) })
unfolding magnitude
read_digits n t h s =
    let r : run (digits n ++ t) ≡ length (digits n) = omega (arith, run_digits n t) in
    rw (r, allowed_digits n t h, take_at (digits n) t (length (digits n)) refl, value_digits n)

abbrev pub number : ℤ → ℕ → Option Number
number v count = Some (record { value = v; count = count })

pub read_decimal : (v : ℤ) (t : List ℕ) → Short v → run t ≡ 0 → read_number (decimal v ++ t) ≡ number v (length (decimal v))
unfolding read_number decimal begins
read_decimal (pos n) t h s = rw (no_minus n t, read_digits n t h s)
read_decimal (negsuc n) t h s = rw (read_digits (suc n) t h s) (ap (number (negsuc n)) (add-one (length (digits (suc n)))))

-- ---- what was read is what is written

digits_found : (l : List ℕ) (m : Magnitude) → magnitude l ≡ Some m → NumberOf l (pos m.value) m.count
unfolding magnitude decimal
digits_found l m e = go (test (allowed (run l) (begins ZERO l)))
  where
    go : Test (allowed (run l) (begins ZERO l)) → NumberOf l (pos m.value) m.count
    go (no! a) = none_some (rw a at e)
    go (yes! a) =
        let w : ◌≡◌ {A = Magnitude} (record { value = value 0 (take (run l) l); count = run l }) m = some_is (rw a at e) in
        let en : value 0 (take (run l) l) ≡ m.value = ap (λ (x : Magnitude). x.value) w in
        let ec : run l ≡ m.count = ap (λ (x : Magnitude). x.count) w in
        let t : digits m.value ≡ take m.count l = rw (en, ec) at (digits_read l a) in
        let long : m.count ≡ length (digits m.value) = sym (ap length t ∙ length-take-le m.count l (rw ec at (run_le l))) in
        let ten : run l ≤ 10 = at_most_ten (run l) (begins ZERO l) a in
        record {
          short = below_pow 9 m.value (omega (arith, long, ec, ten));
          counted = long;
          text = sym (take-append-drop m.count l) ∙ ap (λ (x : List ℕ). x ++ drop m.count l) (sym t);
          stops = rw ec at (run_after l);
        }

pub digits_bounds : (l : List ℕ) (m : Magnitude) → magnitude l ≡ Some m → (m.value < 10 ^ 10) × (m.count ≤ 10)
unfolding decimal
digits_bounds l m e = let h = digits_found l m e in (h.short, omega (arith, h.counted, count_le 9 m.value h.short))

after_minus : (l : List ℕ) (n c : ℕ) → NumberOf l (pos (suc n)) c → NumberOf (MINUS ∷ l) (negsuc n) (c + 1)
unfolding decimal
after_minus l n c h =
    rw (add-one c)
    (record {
      short = h.short;
      counted = ap suc h.counted;
      text = ap (λ (m : List ℕ). MINUS ∷ m) h.text;
      stops = h.stops;
    })

plain_found : (l : List ℕ) (n : Number) (m : Option Magnitude) → magnitude l ≡ m → plain m ≡ Some n → NumberOf l n.value n.count
plain_found l n None e f = none_some f
plain_found l n (Some m) e f = rw (← some_is f) (digits_found l m e)

negated_found : (l : List ℕ) (n : Number) (m : Option Magnitude) → magnitude l ≡ m → negated m ≡ Some n → NumberOf (MINUS ∷ l) n.value n.count
negated_found l n None e f = none_some f
negated_found l n (Some m) e f = go m.value m.count (digits_found l m e) f
  where
    go : (k c : ℕ) → NumberOf l (pos k) c → negated (Some (record { value = k; count = c })) ≡ Some n → NumberOf (MINUS ∷ l) n.value n.count
    go zero c h f = none_some f
    go (suc k) c h f = rw (← some_is f) (after_minus l k c h)

pub decimal_read : (l : List ℕ) (n : Number) → read_number l ≡ Some n → NumberOf l n.value n.count
unfolding read_number
decimal_read l n e = go (test (begins MINUS l))
  where
    go : Test (begins MINUS l) → NumberOf l n.value n.count
    go (no! z) = plain_found l n (magnitude l) refl (rw z at e)
    go (yes! z) = rw (begins_split MINUS l z) (negated_found (drop 1 l) n (magnitude (drop 1 l)) refl (rw z at e))

-- ---- both

pub number_exactly : (l : List ℕ) (v : ℤ) (c : ℕ) → (read_number l ≡ Some (record { value = v; count = c })) ↔ NumberOf l v c
number_exactly l v c = (
  decimal_read l (record { value = v; count = c }),
  λ h. ap read_number h.text ∙ read_decimal v (drop c l) h.short h.stops ∙ ap (number v) (sym h.counted),
)
