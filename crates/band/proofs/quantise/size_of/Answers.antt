use Rattle.std.proofs.lemmas.Int.{ints}
use Rattle.std.proofs.Common.{arith}
use Rattle.band.specs.Quantise.{size}
use Rattle.band.proofs.quantise.size_of.Goals as goal

pub returns-then-e-lt0 : goal.returns-then-e-lt0
unfolding size
returns-then-e-lt0 c = grind (arith, ints)

pub returns-else-e-lt0 : goal.returns-else-e-lt0
unfolding size
returns-else-e-lt0 c = grind (arith, ints)
