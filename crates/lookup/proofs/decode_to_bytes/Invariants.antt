use Rattle.samples.proofs.Bytes.{Pairing}
use Rattle.lookup.proofs.decode_to_bytes.Given as goal

abbrev pub invariant-loop-i : goal.invariant-loop-i
invariant-loop-i g l = Pairing g.L.Law.value l.payload l.initial.out l.out l.i
