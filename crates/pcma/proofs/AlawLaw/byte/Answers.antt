-- The mask goes by the sign of floor(s / 8).
use Rattle.std.specs.Prelude.{cond}
use Rattle.std.specs.Int.Bits.{bit_xor}
use Rattle.std.specs.Int.Signed.{mag, shr_z, lt_z}
use Rattle.std.proofs.Common.{◌≡◌, refl, ap, ◌∙◌, zero-le, ℤ, pos, negsuc, w16, rules}
use Rattle.std.proofs.lemmas.Bool.{le-ltb}
use Rattle.std.proofs.lemmas.Int.{to_z-of_z}
use Rattle.pcma.specs.Alaw.{a_code, masked, a_byte}
use Rattle.pcma.proofs.AlawLaw.byte.Goals as goal

by_sign : (w : ℤ) → bit_xor (a_code (mag w)) (cond (lt_z w (pos 0)) 0x55 0xD5) ≡ masked w
unfolding masked
by_sign (pos v) = rw (le-ltb v 0 zero-le) refl
by_sign (negsuc v) = refl

pub returns : goal.returns
unfolding a_byte
returns c =
    let eighth = to_z-of_z w16 c.eighth-v.result (search rules) ∙ c.eighth-v.ensures ∙ ap (λ z. shr_z z 8) (to_z-of_z w16 c.args.s c.ranges.s) in
    rw (c.code.ensures, c.fold.ensures, c.mask.ensures, eighth) (by_sign (shr_z c.args.s 8))
