-- What is left of the input, decoded by the filters as they are, is what is left of the output.
use Rattle.std.proofs.Common.{◌≡◌}
use Rattle.std.specs.Slice.Iter.{chunks_rest, chunks_size}
use Rattle.pieces.proofs.Decodes.{Decodes}
use Rattle.pieces.proofs.decode.Given as goal

abbrev pub invariant-loop-part : goal.invariant-loop-part
invariant-loop-part l = record {
  can_next : (goal.iterator-loop-part).can_next l.part-iterator;
  is_finite : (goal.iterator-loop-part).is_finite l.part-iterator;
  size : chunks_size l.part-iterator ≡ 1024;
  decodes : Decodes l.rate l.initial.f l.input l.initial.out l.f (chunks_rest l.part-iterator) l.out l.o;
}
