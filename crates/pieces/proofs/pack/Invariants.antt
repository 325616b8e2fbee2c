-- The bytes of the samples below i stand in the output.
use Rattle.std.proofs.Common.{◌*◌, drop}
use Rattle.answers.proofs.Filling.{Filling}
use Rattle.samples.specs.Bytes.{bytes}
use Rattle.pieces.proofs.pack.Given as goal

abbrev pub invariant-loop-i : goal.invariant-loop-i
invariant-loop-i l = Filling (bytes l.input) l.initial.out (bytes (drop l.i l.input)) l.out (2 * l.i)
