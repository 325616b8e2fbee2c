-- The code's tests, one after the other, are that of `allowed`, at the run of digits and at whether it begins with a zero.
use Rattle.std.proofs.Common.{◌≡◌, sym, ◌∙◌, Bool, true, false, not, ◌||◌, Option, Some, None, List, ℕ, ◌≤◌, ◌<◌, eqb, ◌⊎◌, inl, inr, length, take, arith}
use borrow.Author.Tests.{lt-ltb, le-ltb, le-leb, lt-leb, ne_eqb}
use lib.Seq.{length-take-le}
use Rattle.text.specs.Ascii.{ZERO}
use Rattle.text.specs.Number.{begins, run, value, allowed, magnitude, Magnitude}
use Rattle.text.proofs.Scan.{run_le, run_alone}
use Rattle.text.proofs.number.read_magnitude.Goals.{else-count-gt0-via-then-count-gt0+then-count-le10+else-not-zero_first, else-count-gt0-via-then-count-gt0+else-count-le10, else-count-gt0-via-else-count-gt0}
use Rattle.text.proofs.number.read_magnitude.Goals as goal

module _ (l : List ℕ) (n : ℕ) (en : n ≡ run l) where
  long : length (take n l) ≡ n
  long = length-take-le n l (omega (arith, run_le l))

  alone : run (take n l) ≡ length (take n l)
  alone = rw en (run_alone l) ∙ sym en ∙ sym long

module _ (l : List ℕ) (n : ℕ) (z : Bool) (en : n ≡ run l) (ez : z ≡ begins ZERO l) where
  found : allowed n z ≡ true → (v : ℕ) → v ≡ value 0 (take n l) → ◌≡◌ {A = Option Magnitude} (Some (record { value = v; count = n })) (magnitude l)
  unfolding magnitude
  found a v e = rw (← en, ← ez, a, e)

  none : allowed n z ≡ false → None ≡ magnitude l
  unfolding magnitude
  none a = rw (← en, ← ez, a)

few : (n : ℕ) (z : Bool) → 0 < n → n ≤ 10 → (n ≡ 1) ⊎ ((n ≡ 1 → ⊥) × (z ≡ false)) → allowed n z ≡ true
few n z a b e = rw (lt-ltb 0 n a, le-leb n 10 b) (go e)
  where
    go : (n ≡ 1) ⊎ ((n ≡ 1 → ⊥) × (z ≡ false)) → (eqb n 1 || not z) ≡ true
    go (inl e) = rw e
    go (inr e) = rw (ne_eqb n 1 e.0, e.1)

zeros : (n : ℕ) (z : Bool) → 0 < n → n ≤ 10 → (n ≡ 1 → ⊥) → z ≡ true → allowed n z ≡ false
zeros n z a b e f = rw (lt-ltb 0 n a, le-leb n 10 b, ne_eqb n 1 e, f)

many : (n : ℕ) (z : Bool) → 0 < n → 10 < n → allowed n z ≡ false
many n z a b = rw (lt-ltb 0 n a, lt-leb n 10 b)

empty : (n : ℕ) (z : Bool) → n ≤ 0 → allowed n z ≡ false
empty n z e = rw (le-ltb 0 n e)

pub slice_bounds-value_of-end : goal.slice_bounds-value_of-end
slice_bounds-value_of-end c = sym (long _ _ c.count_digits-count.ensures)

pub value_of-value-requires-clause-all : goal.value_of-value-requires-clause-all
value_of-value-requires-clause-all c = alone _ _ c.count_digits-count.ensures

pub returns-then-not-zero_first : goal.returns-then-not-zero_first
returns-then-not-zero_first c =
    found _ _ _ c.count_digits-count.ensures c.begins-zero_first.ensures
    (few _ _ c.if-count-gt0.true c.if-count-le10.true c.if-not-zero_first.either) _ c.value_of-value.ensures

pub returns : goal.returns
returns c =
    none _ _ _ c.count_digits-count.ensures c.begins-zero_first.ensures
    (elim c.else-count-gt0.branch [
      | else-count-gt0-via-then-count-gt0+then-count-le10+else-not-zero_first w ↦ zeros _ _ w.if-count-gt0.true w.if-count-le10.true w.if-not-zero_first.false.0 w.if-not-zero_first.false.1
      | else-count-gt0-via-then-count-gt0+else-count-le10 w ↦ many _ _ w.if-count-gt0.true w.if-count-le10.false
      | else-count-gt0-via-else-count-gt0 w ↦ empty _ _ w.if-count-gt0.false
    ])
