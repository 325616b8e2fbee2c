use Rattle.answers.proofs.Filling.{Mapping}
use Rattle.lookup.proofs.encode.Given as goal

abbrev pub invariant-loop-i : goal.invariant-loop-i
invariant-loop-i g l = Mapping g.L.Law.byte l.input l.initial.out l.out l.i
