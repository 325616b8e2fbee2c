use Rattle.answers.proofs.Filling.{Mapping}
use Rattle.lookup.proofs.decode.Given as goal

abbrev pub invariant-loop-i : goal.invariant-loop-i
invariant-loop-i g l = Mapping g.L.Law.value l.payload l.initial.out l.out l.i
