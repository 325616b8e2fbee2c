-- A test taken apart: it is true or false, and `a && b` is true where both are.
use mathlib.Core.Path.{◌≡◌, refl}
use mathlib.Core.Bool.{Bool, true, false, cond, ◌&&◌}
use Rattle.std.specs.Prelude.{Option, Some, None}
use Prim.Native.Nat.{ℕ, ◌<◌, ◌≤◌}
use native.Mathlib.Omega.{arith}
use lib.Dec.{ltb}
use borrow.Author.Tests.{ltb-true, ltb-false}

pub data Test (t : Bool) : Type 0 where
  yes! : t ≡ true → Test t
  no! : t ≡ false → Test t

pub test : (t : Bool) → Test t
test true = yes! refl
test false = no! refl

pub false_is_true : {A : Type 0} → ◌≡◌ {A = Bool} false true → A
false_is_true e = absurd (let q : ◌≡◌ {A = ℕ} 0 1 = cc in omega arith)

-- two results that are there are equal where what they hold is, and none is not one
pub some_is : {A : Type 0} {x y : A} → ◌≡◌ {A = Option A} (Some x) (Some y) → x ≡ y
some_is e = cc

pub none_some : {A B : Type 0} {x : A} → ◌≡◌ {A = Option A} None (Some x) → B
none_some e = absurd (cc)

pub both : (a b : Bool) → (a && b) ≡ true → (a ≡ true) × (b ≡ true)
both true b e = (refl, e)
both false b e = false_is_true e

-- below a bound or not
pub data Below (n bound : ℕ) : Type 0 where
  small : n < bound → Below n bound
  large : bound ≤ n → Below n bound

pub below : (n bound : ℕ) → Below n bound
below n bound = go (test (ltb n bound))
  where
    go : Test (ltb n bound) → Below n bound
    go (yes! e) = small (ltb-true n bound e)
    go (no! e) = large (ltb-false n bound e)

-- what holds of both holds of either
pub either : {A : Type 0} (P : A → Type 0) (t : Bool) {a b : A} → P a → P b → P (cond t a b)
either P true p q = p
either P false p q = q
