use Rattle.fixed.proofs.Wide.{from16, gives, mul, same, shr, var}
use Rattle.fixed.proofs.scaled.Goals as goal

pub returns : goal.returns
returns c = gives (same (shr (mul (from16 c.ranges.a) (var c.requires tt) tt) 15 tt) c.scaled_down.ensures)
