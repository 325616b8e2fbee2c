use Prim.Native.Nat.{ℕ, ◌+◌, ◌*◌, ◌/◌, ◌%◌, ◌^◌, ◌≤◌}
use native.Mathlib.Omega.{arith}
use lib.IntN.{ℤ, pos, nat_abs}
use lib.ListN.{get_or}
use mathlib.Core.Path.{◌≡◌, ◌∙◌, ap, subst, sym}
use mir.Syntax.{w16, w32}
use mir.Val.{Fits, SFits}
use Rattle.fixed.specs.Number.{In}
use Rattle.fixed.proofs.Half.{half, readh, rh}
use Rattle.band.specs.Tables.{ILB}
use Rattle.band.specs.Adapt.{det_of}
use Rattle.band.proofs.Scale.{det_most_lem, nat_in, shifted_is}
use Rattle.band.proofs.adapt.scale.Goals as goal

-- what the code computes, of a number and a base
abbrev computed : ℤ → ℕ → ℕ
computed z base = 4 * (get_or ILB (nat_abs z / 64 % 32) 0 * 2 ^ (nat_abs z / 2048) % 4294967296 / 2 ^ base)

module _ {z : ℤ} {base : ℕ} (b : base ≤ 10) (i : In (pos 0) (pos (2048 * (base + 1))) z) (f : SFits w16 z) where
  most : nat_abs z ≤ 2048 * (base + 1)
  most = nat_in _ z i

  is : computed (rh z) base ≡ det_of base (nat_abs z)
  is = (λ t. computed (readh (half f) t) base) ∙ ap (λ (v : ℕ). 4 * (v / 2 ^ base)) (shifted_is _ _ most b)

  fits : Fits w32 (computed (rh z) base)
  fits = subst (Fits w32) (sym is) (record { fits = omega (arith, det_most_lem _ _ most) })

  fine : SFits w16 (pos (computed (rh z) base))
  fine = subst (λ (n : ℕ). SFits w16 (pos n)) (sym is) (record { sfits = omega (arith, det_most_lem _ _ most) })

pub overflow_mul-result : goal.overflow_mul-result
overflow_mul-result c = fits c.requires.0 c.requires.1 c.ranges.nb

pub overflow_cast-result : goal.overflow_cast-result
overflow_cast-result c = fine c.requires.0 c.requires.1 c.ranges.nb

pub returns : goal.returns
returns c =
    let r = c.requires in
    let f = c.ranges.nb in
    readh (record { is = ap pos (is r.0 r.1 f); fits = fine r.0 r.1 f })
