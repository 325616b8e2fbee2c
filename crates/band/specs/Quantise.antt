-- Blocks 1L and 1H of G.722: what a band sends of its sample.
use Rattle.std.specs.Prelude.{ℕ, zero, suc, ◌+◌, ℤ, pos, neg_ℤ, ◌+ℤ◌, ◌-ℤ◌, ◌*ℤ◌, get_or, Bool, cond, List}
use Rattle.std.specs.Int.Signed.{shr_z, lt_z}
use Rattle.fixed.specs.Number.{sat}
use Rattle.band.specs.Tables.{Q6, ILN, ILP, IHN, IHP}

-- the sample less what was predicted
abbrev pub SUBTRA : ℤ → ℤ → ℤ
SUBTRA x s = sat (x -ℤ s)

-- e, or -(e + 1) where e is negative
unfoldable pub size : ℤ → ℤ
size e = cond (lt_z e (pos 0)) (neg_ℤ (e +ℤ pos 1)) e

-- the first of the n numbers i, i + 1, .. that passes the test, else i + n
unfoldable pub first : (ℕ → Bool) → ℕ → ℕ → ℕ
first test zero i = i
first test (suc n) i = cond (test i) i (first test n (i + 1))

-- w is below the level q of the scale factor det
abbrev pub below : ℤ → ℤ → ℤ → Bool
below w det q = lt_z w (shr_z (q *ℤ det) 4096)

-- the code at place i, in the table for the sign of e
unfoldable pub code_at : List ℕ → List ℕ → ℤ → ℕ → ℕ
code_at negative positive e i = cond (lt_z e (pos 0)) (get_or negative i 0) (get_or positive i 0)

-- the place is the first of 1 to 29 whose level the size is below, else 30
abbrev pub place_low : ℤ → ℤ → ℕ
place_low w det = first (λ (i : ℕ). below w det (get_or Q6 i (pos 0))) 29 1

abbrev pub QUANTL : ℤ → ℤ → ℕ
QUANTL el det = code_at ILN ILP el (place_low (size el) det)

-- the high band has one level
unfoldable pub place_high : ℤ → ℤ → ℕ
place_high w det = cond (below w det (pos 564)) 1 2

abbrev pub QUANTH : ℤ → ℤ → ℕ
QUANTH eh det = code_at IHN IHP eh (place_high (size eh) det)
