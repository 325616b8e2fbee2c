-- The samples of the pairs so far stand in the output.
use Rattle.std.proofs.Common.{◌≡◌}
use Rattle.std.specs.Iterator.Adapters.{enumerate_source, enumerate_count}
use Rattle.std.specs.Slice.Iter.{chunks_exact_rest, chunks_exact_size}
use Rattle.answers.proofs.Filling.{Filling}
use Rattle.samples.specs.Bytes.{samples}
use Rattle.pieces.proofs.unpack.Given as goal

abbrev pub invariant-loop-i : goal.invariant-loop-i
invariant-loop-i l = record {
  can_next : (goal.iterator-loop-i).can_next l.i-iterator;
  is_finite : (goal.iterator-loop-i).is_finite l.i-iterator;
  two : chunks_exact_size (enumerate_source l.i-iterator) ≡ 2;
  filling : Filling (samples l.input) l.initial.out (samples (chunks_exact_rest (enumerate_source l.i-iterator))) l.out (enumerate_count l.i-iterator);
}
