-- The loop keeps `Encodes`, over the samples that are left.
use Rattle.std.proofs.Common.{◌≡◌}
use Rattle.std.specs.Iterator.Adapters.{enumerate_source, enumerate_count}
use Rattle.std.specs.Slice.Iter.{chunks_exact_rest, chunks_exact_size}
use Rattle.runs.proofs.RateLaws.{samples_a_byte}
use Rattle.runs.proofs.Loops.{Encodes}
use Rattle.runs.proofs.encode_run.Given as goal

abbrev pub invariant-loop-i : goal.invariant-loop-i
invariant-loop-i l = record {
  can_next : (goal.iterator-loop-i).can_next l.i-iterator;
  is_finite : (goal.iterator-loop-i).is_finite l.i-iterator;
  size : chunks_exact_size (enumerate_source l.i-iterator) ≡ samples_a_byte l.rate;
  encodes : Encodes l.rate l.input l.fn.out l.fn.f l.out l.g (chunks_exact_rest (enumerate_source l.i-iterator)) (enumerate_count l.i-iterator);
}
