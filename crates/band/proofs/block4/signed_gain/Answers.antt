use Rattle.std.proofs.Common.{arith, refl, zero, suc, ℤ, pos, ◌≡◌, ◌*ℤ◌}
use lib.IntN.{negsuc}
use Rattle.std.specs.Int.{int_signum}
use Rattle.std.proofs.lemmas.Int.{ints}
use Rattle.fixed.specs.Number.{minus, In, signed_by}
use Rattle.fixed.proofs.Wide.{E, gives, lit, mul, to}
use Rattle.fixed.proofs.Half.{ans, h1, half, readh, rh, wide_h}
use Rattle.band.specs.Block4.{gain}
use Rattle.band.proofs.block4.signed_gain.Goals as goal

sign_in : (d : ℤ) → In (minus 1) (pos 1) (int_signum d)
sign_in (pos n) = record { low = record { le = tt }; high = omega (arith, ints) }
sign_in (negsuc n) = record { low = record { le = tt }; high = record { le = tt } }

turned : (d : ℤ) → pos 128 *ℤ int_signum d ≡ signed_by d (gain d)
unfolding signed_by
turned (pos zero) = refl
turned (pos (suc n)) = grind (arith, ints)
turned (negsuc n) = refl

pub returns : goal.returns
returns c =
    let d = c.args.d in
    let h = ans c.signum.ensures.value (h1 (half c.ranges.d) int_signum) c.signum.type_inv in
    let sign : E (minus 1) (pos 1) (rh c.signum.result) (int_signum d) = record { is = readh h; range = sign_in d; fits = (wide_h h).fits } in
    gives (to (mul (lit (pos 128) tt) sign tt) (turned d))
