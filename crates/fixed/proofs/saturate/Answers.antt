use lib.IntN.{pos}
use Rattle.fixed.specs.Number.{minus, sat}
use Rattle.fixed.proofs.Signed.{clamped}
use Rattle.fixed.proofs.Wide.{any, at1, call, narrow_is}
use Rattle.fixed.proofs.saturate.Goals as goal

pub returns : goal.returns
returns c = narrow_is (call (clamped (minus 32768) (pos 32767) _ _ (record { le = tt }) c.clamp.ensures.value) (at1 (any c.ranges.v) sat) tt)
