-- After the last turn all samples stand in the output.
use Rattle.std.proofs.Common.{arith, ◌∙◌}
use Rattle.answers.proofs.Filling.{ends}
use Rattle.samples.specs.Bytes.{samples}
use Rattle.samples.proofs.Bytes.{length-samples}
use Rattle.pieces.proofs.Lists.{sets_all, samples_none}
use Rattle.pieces.proofs.unpack.Goals as goal

pub returns : goal.returns
returns c =
    let none = samples_none _ (rw c.loop-i.invariant.two at c.in-None.ensures.steps.0.1.0) in
    let n = length-samples c.args.input.now in
    ends c.loop-i.invariant.filling none ∙ sets_all c.args.out.now (samples c.args.input.now) (omega arith)
