use lib.IntN.{pos}
use Rattle.fixed.specs.Number.{minus}
use Rattle.fixed.proofs.Signed.{clamped}
use Rattle.fixed.proofs.Wide.{add, at1, call, from16, gives}
use Rattle.step.specs.Step.{LIMIT}
use Rattle.step.proofs.limited.Goals as goal

pub returns : goal.returns
returns c =
    let sum = add (from16 c.ranges.s) (from16 c.ranges.d) tt in
    gives (call (clamped (minus 16384) (pos 16383) _ _ (record { le = tt }) c.clamp.ensures.value) (at1 sum LIMIT) tt)
