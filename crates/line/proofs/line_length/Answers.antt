use Rattle.std.proofs.Common.{arith}
use Rattle.line.proofs.LineTexts.{line_long}
use Rattle.line.proofs.line_length.Goals as goal

pub returns : goal.returns
returns c = λ k z. omega (arith, c.fields_length.ensures.value, line_long k z c.args.vs.now)
