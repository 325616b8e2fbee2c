-- The laws of the rows as text: how long they are, how a row is stored field by field, and rows taken apart.
use mathlib.Core.Path.{◌≡◌, sym, ap, ◌∙◌}
use mathlib.Core.List.{List, [], ◌∷◌, ◌++◌, append_assoc}
use Prim.Native.Nat.{ℕ, suc, ◌+◌, ◌^◌, ◌≤◌, ◌<◌}
use native.Mathlib.Nat.{add-zero}
use native.Mathlib.Numerals.{add-one}
use native.Mathlib.Omega.{arith}
use lib.IntN.{ℤ, pos, negsuc}
use lib.ListN.{length, drop, set, get_or, length-append, drop_of_length-le}
use lib.Seq.{sets, drop-cons}
use mir.Syntax.{w16}
use mir.Val.{SFits}
use Rattle.text.specs.Ascii.{TAB, NEWLINE}
use Rattle.text.specs.Number.{decimal}
use Rattle.text.specs.Fields.{parted}
use Rattle.text.proofs.Buffer.{sets-append}
use Rattle.text.proofs.Digits.{count_le}
use Rattle.rows.specs.Text.{row_text, rows_text, row_most}

-- ---- two fields

module _ (a b : List ℕ) where
  pub two_length : length (parted (a ∷ b ∷ [])) ≡ length a + 1 + length b + 1
  unfolding parted
  two_length = omega (arith, length-append a (TAB ∷ (b ++ (NEWLINE ∷ []))), length-append b (NEWLINE ∷ []))

  -- stored one after the other, each with what follows it
  pub two_stored : (o : List ℕ) (at : ℕ) → sets o at (parted (a ∷ b ∷ []))
      ≡ set (sets (set (sets o at a) (at + length a) TAB) (at + length a + 1) b) (at + length a + 1 + length b) NEWLINE
  unfolding parted
  two_stored o at =
      let q = set (sets o at a) (at + length a) TAB in
      sets-append o at a (TAB ∷ (b ++ (NEWLINE ∷ [])))
      ∙ ap (λ (k : ℕ). sets q k (b ++ (NEWLINE ∷ []))) (sym (add-one (at + length a)))
      ∙ sets-append q (at + length a + 1) b (NEWLINE ∷ [])

-- ---- lengths

pub index_length : (n : ℕ) → n < 10 ^ 10 → length (decimal (pos n)) ≤ 10
unfolding decimal
index_length n h = count_le 9 n h

pub value_length : (v : ℤ) → SFits w16 v → length (decimal v) ≤ 6
unfolding decimal
value_length (pos n) f = omega (arith, count_le 4 n (omega (arith, f.sfits)))
value_length (negsuc n) f = omega (arith, count_le 4 (suc n) (omega (arith, f.sfits)))

pub row_length : (n : ℕ) (v : ℤ) → n < 10 ^ 10 → SFits w16 v → length (row_text n v) ≤ row_most
unfolding row_text
row_length n v h f = omega (arith, two_length (decimal (pos n)) (decimal v), index_length n h, value_length v f)

-- ---- rows taken apart

pub rows_at : (first : ℕ) (vs : List ℤ) (i : ℕ) → i < length vs
    → rows_text (first + i) (drop i vs) ≡ row_text (first + i) (get_or vs i (pos 0)) ++ rows_text (first + (i + 1)) (drop (i + 1) vs)
unfolding rows_text
rows_at first vs i h =
    let row = row_text (first + i) (get_or vs i (pos 0)) in
    rw (drop-cons vs i (pos 0) h, add-one i) (ap (λ (k : ℕ). row ++ rows_text k (drop (suc i) vs)) (omega arith))

pub rows_none : (first : ℕ) (vs : List ℤ) (i : ℕ) → length vs ≤ i → rows_text (first + i) (drop i vs) ≡ []
unfolding rows_text
rows_none first vs i h = rw (drop_of_length-le vs h)

pub rows_append : (first : ℕ) (a b : List ℤ) → rows_text first (a ++ b) ≡ rows_text first a ++ rows_text (first + length a) b
unfolding rows_text
rows_append first [] b = ap (λ (k : ℕ). rows_text k b) (sym (add-zero first))
rows_append first (v ∷ a) b =
    let rest = rows_text (suc first) a in
    ap (λ (l : List ℕ). row_text first v ++ l) (rows_append (suc first) a b ∙ ap (λ (k : ℕ). rest ++ rows_text k b) (omega arith))
    ∙ sym (append_assoc (row_text first v) rest (rows_text (first + length (v ∷ a)) b))
