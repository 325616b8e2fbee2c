-- How large the scale factor is, and the number that is shifted on the way to it.
use Prim.Native.Nat.{ℕ, suc, ◌+◌, ◌*◌, ◌/◌, ◌%◌, ◌^◌, ◌<◌, ◌≤◌, zero-le}
use native.Mathlib.Nat.{mul-le-mul, mod-eq_of_lt}
use native.Mathlib.Omega.{arith}
use mathlib.Core.Bool.{Bool, true, false, not}
use mathlib.Core.Path.{◌≡◌, refl, sym, subst}
use lib.Dec.{T, leb, nleb→lt, leb→le, le→leb}
use lib.IntN.{ℤ, pos, negsuc, nat_abs}
use lib.ListN.{get_or}
use lib.Pow.{pow_mono, shr_mono, shl-shr}
use Rattle.fixed.specs.Number.{In}
use Rattle.fixed.proofs.Wide.{table_n}
use Rattle.band.specs.Tables.{ILB}
use Rattle.band.specs.Bounds.{det_most}
use Rattle.band.specs.Adapt.{det_of}

abbrev pub shifted : ℕ → ℕ
shifted n = get_or ILB (n / 64 % 32) 0 * 2 ^ (n / 2048)

-- the greatest n has the first entry
shifted_most : (n base : ℕ) → n ≤ 2048 * (base + 1) → shifted n ≤ 4096 * 2 ^ base
shifted_most n base h = go (leb (n / 2048) base) refl
  where
    top : n / 2048 ≡ suc base → n / 64 % 32 ≡ 0 → shifted n ≤ 4096 * 2 ^ base
    top e f = rw (e, f) (omega arith)

    go : (b : Bool) → leb (n / 2048) base ≡ b → shifted n ≤ 4096 * 2 ^ base
    go true e =
        let k : get_or ILB (n / 64 % 32) 0 ≤ 4096 = omega (arith, table_n 4008 ILB tt (n / 64 % 32)) in
        mul-le-mul k (pow_mono (leb→le (n / 2048) base (subst T (sym e) tt)))
    go false e =
        let k : base < n / 2048 = nleb→lt (n / 2048) base (subst (λ (b : Bool). T (not b)) (sym e) tt) in
        top (omega arith) (omega arith)

pub det_most_lem : (n base : ℕ) → n ≤ 2048 * (base + 1) → det_of base n ≤ det_most
det_most_lem n base h = omega (arith, shr_mono base (shifted_most n base h), shl-shr 4096 base)

pub shifted_is : (n base : ℕ) → n ≤ 2048 * (base + 1) → base ≤ 10 → shifted n % 4294967296 ≡ shifted n
shifted_is n base h k = mod-eq_of_lt (omega (arith, shifted_most n base h, pow_mono {j = 10} k))

pub nat_in : (m : ℕ) (z : ℤ) → In (pos 0) (pos m) z → nat_abs z ≤ m
nat_in m (pos n) i = leb→le n m i.high.le
nat_in m (negsuc n) i = absurd i.low.le

pub det_in : (n base : ℕ) → n ≤ 2048 * (base + 1) → In (pos 0) (pos det_most) (pos (det_of base n))
det_in n base h = record {
  low = record { le = le→leb 0 (det_of base n) zero-le };
  high = record { le = le→leb (det_of base n) det_most (det_most_lem n base h) };
}
