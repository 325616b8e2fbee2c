-- Sixteen bits over ℤ are the machine's: what two bytes stand for is what a cast gives, and a sample's bits are those that a word holds.
use mathlib.Core.Bool.{Bool, true, false, cond}
use mathlib.Core.Path.{◌≡◌, refl}
use Prim.Native.Nat.{ℕ, ◌+◌, ◌*◌, ◌<◌}
use native.Mathlib.Omega.{arith}
use lib.Dec.{ltb}
use lib.IntN.{ℤ, pos, negsuc}
use mir.Syntax.{w16}
use mir.Val.{SFits, to_z, of_z, sel}
use mir.Facts.{sfits_to_z}
use borrow.Author.Tests.{lt-ltb}
use Rattle.samples.specs.Bytes.{sample_of, bits_of}

either : (b : Bool) (x y : ℤ) → cond b x y ≡ sel b x y
either true x y = refl
either false x y = refl

module _ (lo hi : ℕ) (l : lo < 256) (h : hi < 256) where
  pub sample_is : sample_of lo hi ≡ to_z w16 (lo + 256 * hi)
  sample_is = rw (lt-ltb (lo + 256 * hi) 65536 (omega arith)) (either (ltb (lo + 256 * hi) 32768) _ _)

  pub sample_fits : SFits w16 (sample_of lo hi)
  sample_fits = rw sample_is (sfits_to_z {w = w16} {n = lo + 256 * hi} (record { fits = omega arith }))

pub bits_are : (z : ℤ) → bits_of z ≡ of_z w16 z
bits_are (pos n) = refl
bits_are (negsuc n) = refl
