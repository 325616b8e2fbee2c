-- The sum so far is that of the products so far.
use Prim.Native.Nat.{◌*◌}
use lib.IntN.{pos}
use lib.ListN.{length, take}
use mathlib.Core.List.{zip_with}
use mathlib.Core.Path.{◌≡◌}
use Rattle.fixed.specs.Number.{minus, In, tapped}
use Rattle.band.specs.Block4.{total}
use Rattle.band.proofs.block4.filtez.Given as goal

abbrev pub invariant-loop-bi : goal.invariant-loop-bi
invariant-loop-bi l = record {
  in_range : In (minus (32768 * length l.yielded)) (pos (32768 * length l.yielded)) l.sum;
  so_far : l.sum ≡ total (zip_with tapped (take (length l.yielded) l.fn.b) l.fn.d);
}
