-- The loop keeps `Decodes`, over the bytes that are left.
use Rattle.runs.proofs.Loops.{Decodes}
use Rattle.runs.proofs.decode_run.Given as goal

abbrev pub invariant-loop-byte : goal.invariant-loop-byte
invariant-loop-byte l = Decodes l.rate l.input l.fn.out l.fn.f l.out l.g l.byte-index l.o
