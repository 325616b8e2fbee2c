-- Ranges, saturation and signs of whole numbers. `shr_z z m` of `lib.Signed` is z / m, rounded down.
use Rattle.std.specs.Prelude.{ℕ, ℤ, pos, negsuc, neg_ℤ, ◌+ℤ◌, ◌*ℤ◌, ◌≤ℤ◌, Bool, true, false, cond, ◌≡◌}
use Rattle.std.specs.Int.Signed.{lt_z, shr_z}

abbrev pub minus : ℕ → ℤ
minus n = neg_ℤ (pos n)

-- lo ≤ z ≤ hi
pub record In (lo hi z : ℤ) : Type 0 where
  pub low : lo ≤ℤ z
  pub high : z ≤ℤ hi

abbrev pub In16 : ℤ → Type 0
In16 z = In (minus 32768) (pos 32767) z

-- what a call hands back: the number, and its range
pub record Is (lo hi v r : ℤ) : Type 0 where
  pub is : r ≡ v
  pub range : In lo hi r

-- v brought into lo .. hi
unfoldable pub clamp_z : ℤ → ℤ → ℤ → ℤ
clamp_z lo hi v = cond (lt_z v lo) lo (cond (lt_z hi v) hi v)

abbrev pub sat : ℤ → ℤ
sat v = clamp_z (minus 32768) (pos 32767) v

-- 0 counts as positive
abbrev pub same_sign : ℤ → ℤ → Bool
same_sign (pos a) (pos b) = true
same_sign (pos a) (negsuc b) = false
same_sign (negsuc a) (pos b) = false
same_sign (negsuc a) (negsuc b) = true

-- w under the sign of x: -w where x is negative, else w
unfoldable pub signed_by : ℤ → ℤ → ℤ
signed_by x w = cond (lt_z x (pos 0)) (neg_ℤ w) w

-- a·q / 2^15 down
abbrev pub scaled_by : ℤ → ℤ → ℤ
scaled_by a q = shr_z (a *ℤ q) 32768

-- one product of a filter: c·sat(2·x) / 2^15 down
abbrev pub tapped : ℤ → ℤ → ℤ
tapped c x = scaled_by c (sat (x +ℤ x))
