-- The table has the rule's values, and each fits.
use Rattle.std.proofs.Common.{refl}
use Rattle.lookup.proofs.Table.{stored}
use Rattle.pcmu.specs.Mulaw.{mu_values, mu_value}
use Rattle.pcmu.proofs.Stored.{values_are}
use Rattle.pcmu.proofs.MulawLaw.value.Goals as goal

pub returns : goal.returns
unfolding mu_values mu_value
returns c = stored mu_value values_are refl c.args.b c.ranges.b.fits
