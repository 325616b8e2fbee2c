-- The table's rule gives the exponent, which is at most 7.
use Rattle.std.specs.Prelude.{leb}
use Rattle.std.proofs.Common.{◌≡◌, refl, ℕ, zero, suc, ◌+◌, ◌-◌, ◌*◌, ◌/◌, ◌%◌, ◌^◌, ◌<◌, ◌≤◌, get_or, arith, w16, ap, ◌∙◌}
use Rattle.std.proofs.Math.Nat.{le_refl, le-suc, le_trans}
use Rattle.std.proofs.lemmas.Int.{to_z-of_z}
use Rattle.samples.proofs.Cond.{cond_le}
use Rattle.lookup.proofs.Table.{entry}
use Rattle.pcmu.specs.declared.tables.TheConstants.{EXPONENTS}
use Rattle.pcmu.specs.Mulaw.{sign_bit, biased, highest, exponent, exponents, mu_byte}
use Rattle.pcmu.proofs.Stored.{exponents_are}
use Rattle.pcmu.proofs.MulawLaw.byte.Goals as goal

highest_le : (k n : ℕ) → highest k n ≤ k
highest_le zero n = le_refl zero
highest_le (suc k) n = cond_le (leb (2 ^ suc k) n) (le_refl (suc k)) (le_trans (highest_le k n) (le-suc k))

module _ (m : ℕ) (h : m < 32768) where
  e_is : get_or EXPONENTS (m / 128) 0 ≡ exponent m
  unfolding exponents
  e_is = entry (highest 7) 0 256 exponents_are (m / 128) (omega arith)

  e_le : get_or EXPONENTS (m / 128) 0 ≤ 7
  e_le = rw e_is (highest_le 7 (m / 128))

pub overflow_shr-mantissa : goal.overflow_shr-mantissa
overflow_shr-mantissa c = omega (arith, e_le c.bias-m.result (omega arith))

pub overflow_sub-result : goal.overflow_sub-result
overflow_sub-result c =
    let sign : c.sign_bit.result ≤ 128 = grind (arith, cond_le) in
    omega (arith, e_le c.bias-m.result (omega arith))

pub returns : goal.returns
unfolding mu_byte
returns c =
    let s = to_z-of_z w16 c.args.s c.ranges.s in
    let m : c.bias-m.result ≡ biased c.args.s = c.bias-m.ensures ∙ ap biased s in
    let sign : c.sign_bit.result ≡ sign_bit c.args.s = c.sign_bit.ensures ∙ ap sign_bit s in
    ap (λ e. 255 - (c.sign_bit.result + 16 * e + c.bias-m.result / 2 ^ (e + 3) % 16)) (e_is c.bias-m.result (omega arith))
    ∙ rw (sign, m) refl
