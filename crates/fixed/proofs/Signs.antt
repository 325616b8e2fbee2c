-- A number that is turned by two signs is turned where they differ.
use Prim.Native.Nat.{ℕ, zero-le}
use mathlib.Core.Bool.{false, cond}
use mathlib.Core.Path.{◌≡◌, ◌∙◌, sym, ap}
use lib.Dec.{le→leb}
use lib.IntN.{ℤ, pos, negsuc, neg_ℤ, neg_ℤ-neg_ℤ}
use lib.Signed.{lt_z}
use Rattle.fixed.specs.Number.{same_sign, signed_by}
use Rattle.fixed.proofs.Signed.{nlt_of, taken}

pub not_negative : (n : ℕ) → lt_z (pos n) (pos 0) ≡ false
not_negative n = nlt_of (pos n) (pos 0) (record { le = le→leb 0 n zero-le })

-- w as it is under a sign that is not negative
pub kept : (n : ℕ) (w : ℤ) → signed_by (pos n) w ≡ w
unfolding signed_by
kept n w = sym (taken (neg_ℤ w) w (not_negative n))

pub twice_signed : (x y w : ℤ) → signed_by x (signed_by y w) ≡ cond (same_sign x y) w (neg_ℤ w)
unfolding signed_by
twice_signed (pos a) (pos b) w = kept a _ ∙ kept b w
twice_signed (pos a) (negsuc b) w = kept a _
twice_signed (negsuc a) (pos b) w = ap neg_ℤ (kept b w)
twice_signed (negsuc a) (negsuc b) w = neg_ℤ-neg_ℤ w
