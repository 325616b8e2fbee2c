-- The loop that writes rows: what is stored, and the rows of the samples still to come, are all the rows.
use mathlib.Core.Path.{◌≡◌, refl, sym, ap, ◌∙◌}
use mathlib.Core.List.{List, ◌++◌}
use Prim.Native.Nat.{ℕ, ◌+◌, ◌*◌, ◌^◌, ◌≤◌, ◌<◌}
use native.Mathlib.Nat.{add-zero}
use native.Mathlib.Omega.{arith}
use lib.IntN.{ℤ, pos}
use lib.ListN.{length, drop, get_or, length-append}
use lib.Seq.{sets, length-sets}
use mir.Syntax.{w16}
use mir.Val.{SFits}
use Rattle.text.proofs.Buffer.{sets-append}
use Rattle.rows.specs.Text.{row_text, rows_text, row_most}
use Rattle.rows.proofs.Texts.{row_length, rows_at, rows_none}

-- o is the buffer at the start and q now; the row of the i-th sample goes to `at`
pub record Writing (first : ℕ) (vs : List ℤ) (o q : List ℕ) (at i : ℕ) : Type 0 where
  pub within : i ≤ length vs
  pub small : at ≤ row_most * i
  pub same : length q ≡ length o
  pub place : at + length (rows_text (first + i) (drop i vs)) ≡ length (rows_text first vs)
  pub whole : sets q at (rows_text (first + i) (drop i vs)) ≡ sets o 0 (rows_text first vs)

pub starts : (first : ℕ) (vs : List ℤ) (o : List ℕ) → Writing first vs o o 0 0
starts first vs o =
    record {
      within = omega arith;
      small = omega arith;
      same = refl;
      place = omega (arith, ap (λ (k : ℕ). length (rows_text k vs)) (add-zero first));
      whole = ap (λ (k : ℕ). sets o 0 (rows_text k vs)) (add-zero first);
    }

module _ {first : ℕ} {vs : List ℤ} {o q : List ℕ} {at i : ℕ} (w : Writing first vs o q at i) where
  pub more : i < length vs → first + i < 10 ^ 10 → (v : ℤ) → v ≡ get_or vs i (pos 0) → SFits w16 v
      → (z : List ℕ) (r : ℕ) → r ≡ at + length (row_text (first + i) v) → z ≡ sets q at (row_text (first + i) v)
      → Writing first vs o z r (i + 1)
  more h n v e f z r p b =
      let row = row_text (first + i) v in
      let rest = rows_text (first + (i + 1)) (drop (i + 1) vs) in
      let step : rows_text (first + i) (drop i vs) ≡ row ++ rest = rw e (rows_at first vs i h) in
      record {
        within = omega arith;
        small = omega (arith, p, w.small, row_length (first + i) v n f);
        same = ap length b ∙ length-sets q at row ∙ w.same;
        place = omega (arith, p, w.place, ap length step, length-append row rest);
        whole = rw (b, p) (sym (sets-append q at row rest)) ∙ ap (sets q at) (sym step) ∙ w.whole;
      }

  pub ends : row_most * length vs ≤ length o → length vs ≤ i
      → (at ≡ length (rows_text first vs)) × ((q ≡ sets o 0 (rows_text first vs)) × (at ≤ length q))
  ends room h =
      let none = rows_none first vs i h in
      (omega (arith, w.place, ap length none), (ap (sets q at) (sym none) ∙ w.whole, omega (arith, w.small, w.same)))
