use lib.IntN.{◌*ℤ◌}
use lib.Signed.{lt_z}
use Rattle.fixed.proofs.Wide.{at2, call, from16, shr}
use Rattle.fixed.proofs.Half.{h2, half}
use Rattle.band.proofs.quantise.below.Goals as goal

pub returns : goal.returns
returns c = at2 (from16 c.ranges.w) (shr (call c.product.ensures (h2 (half c.ranges.q) (half c.ranges.det) ◌*ℤ◌) tt) 12 tt) lt_z
