-- A bound of both numbers is a bound of the one that is chosen.
use mathlib.Core.Bool.{Bool, true, false, cond}
use Prim.Native.Nat.{ℕ, ◌≤◌}

pub cond_le : (b : Bool) {m n k : ℕ} → m ≤ k → n ≤ k → cond b m n ≤ k
cond_le true p q = p
cond_le false p q = q
