-- The codes that the quantisers give: 4 to 63 in the low band, 0 to 3 in the high one.
use Prim.Native.Nat.{ℕ, zero, suc, ◌+◌, ◌≤◌, ◌<◌}
use native.Mathlib.Omega.{arith}
use mathlib.Core.Bool.{Bool, true, false, cond, ◌&&◌}
use mathlib.Core.List.{List, [], ◌∷◌}
use mathlib.Core.Path.{◌≡◌, refl}
use lib.Dec.{T, leb, leb→le}
use lib.Ieee.Fits.{and_l, and_r}
use lib.IntN.{ℤ, pos}
use lib.ListN.{get_or, length, take, drop}
use lib.Seq.{get_or-drop, get_or-take}
use lib.Signed.{lt_z}
use Rattle.fixed.proofs.Wide.{table_n}
use Rattle.band.specs.Tables.{ILN, ILP, IHN, IHP}
use Rattle.band.specs.Quantise.{QUANTH, QUANTL, code_at, first, size, place_high, place_low}

-- ---- a code has what both tables have at its place
of_both : (negative positive : List ℕ) (e : ℤ) (i : ℕ) (P : ℕ → Type 0)
    → P (get_or negative i 0) → P (get_or positive i 0) → P (code_at negative positive e i)
unfolding code_at
of_both negative positive e i P p q = go (lt_z e (pos 0))
  where
    go : (b : Bool) → P (cond b (get_or negative i 0) (get_or positive i 0))
    go true = p
    go false = q

pub quantl_most : (el det : ℤ) → QUANTL el det ≤ 63
quantl_most el det = let i = place_low (size el) det in of_both ILN ILP el i (λ n. n ≤ 63) (table_n 63 ILN tt i) (table_n 63 ILP tt i)

pub quanth_most : (eh det : ℤ) → QUANTH eh det ≤ 3
quanth_most eh det = let i = place_high (size eh) det in of_both IHN IHP eh i (λ n. n ≤ 3) (table_n 3 IHN tt i) (table_n 3 IHP tt i)

-- ---- the low band never sends 0 to 3: its place is one of 1 to 30
first_from : (test : ℕ → Bool) (n i : ℕ) → (i ≤ first test n i) × (first test n i ≤ i + n)
unfolding first
first_from test zero i = (omega arith, omega arith)
first_from test (suc n) i = go (test i) (first_from test n (i + 1))
  where
    go : (b : Bool) → (i + 1 ≤ first test n (i + 1)) × (first test n (i + 1) ≤ i + 1 + n)
        → (i ≤ cond b i (first test n (i + 1))) × (cond b i (first test n (i + 1)) ≤ i + suc n)
    go true p = (omega arith, omega arith)
    go false p = (omega (arith, p.0), omega (arith, p.1))

abbrev all_least : ℕ → List ℕ → Bool
all_least lo [] = true
all_least lo (x ∷ xs) = leb lo x && all_least lo xs

least_at : (lo : ℕ) (xs : List ℕ) → T (all_least lo xs) → (i : ℕ) → i < length xs → lo ≤ get_or xs i 0
least_at lo [] t i h = absurd (omega arith)
least_at lo (x ∷ xs) t zero h = leb→le lo x (and_l (leb lo x) (all_least lo xs) t)
least_at lo (x ∷ xs) t (suc i) h = least_at lo xs (and_r (leb lo x) (all_least lo xs) t) i (omega arith)

entry_least : (xs : List ℕ) → T (all_least 4 (take 30 (drop 1 xs))) → length (take 30 (drop 1 xs)) ≡ 30
    → (i : ℕ) → 1 ≤ i → i ≤ 30 → 4 ≤ get_or xs i 0
entry_least xs t n zero h k = absurd (omega arith)
entry_least xs t n (suc i) h k =
    let below : i < 30 = omega arith in
    rw (get_or-take 30 (drop 1 xs) i 0 below, get_or-drop 1 xs i 0, one i) at (least_at 4 (take 30 (drop 1 xs)) t i (omega arith))
  where
    one : (i : ℕ) → 1 + i ≡ suc i
    one i = omega arith

pub quantl_least : (el det : ℤ) → 4 ≤ QUANTL el det
quantl_least el det =
    let i = place_low (size el) det in
    let p = first_from _ 29 1 in
    of_both ILN ILP el i (λ n. 4 ≤ n) (entry_least ILN tt refl i p.0 p.1) (entry_least ILP tt refl i p.0 p.1)
