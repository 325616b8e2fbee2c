use Rattle.fixed.proofs.Wide.{from16, gives, mul}
use Rattle.fixed.proofs.product.Goals as goal

pub returns : goal.returns
returns c = gives (mul (from16 c.ranges.a) (from16 c.ranges.b) tt)
