-- The table has the rule's values, and each fits.
use Rattle.std.proofs.Common.{refl}
use Rattle.lookup.proofs.Table.{stored}
use Rattle.pcma.specs.Alaw.{a_values, a_value, signed, a_size}
use Rattle.pcma.proofs.Stored.{values_are}
use Rattle.pcma.proofs.AlawLaw.value.Goals as goal

pub returns : goal.returns
unfolding a_values a_value signed a_size
returns c = stored a_value values_are refl c.args.b c.ranges.b.fits
