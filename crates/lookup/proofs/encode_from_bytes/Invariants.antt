use Rattle.std.proofs.Common.{◌≡◌}
use Rattle.std.specs.Iterator.Adapters.{enumerate_source, enumerate_count}
use Rattle.std.specs.Slice.Iter.{chunks_exact_rest, chunks_exact_size}
use Rattle.samples.proofs.Bytes.{Unpairing}
use Rattle.lookup.proofs.encode_from_bytes.Given as goal

abbrev pub invariant-loop-i : goal.invariant-loop-i
invariant-loop-i g l = record {
  can_next : (goal.iterator-loop-i g).can_next l.i-iterator;
  is_finite : (goal.iterator-loop-i g).is_finite l.i-iterator;
  two : chunks_exact_size (enumerate_source l.i-iterator) ≡ 2;
  pairs : Unpairing g.L.Law.byte l.input l.initial.out (chunks_exact_rest (enumerate_source l.i-iterator)) l.out (enumerate_count l.i-iterator);
}
