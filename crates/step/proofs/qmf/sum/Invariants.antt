-- Each sum so far is that of the products so far.
use Rattle.std.proofs.Common.{◌≡◌}
use Rattle.step.proofs.Dot.{even_up_to, odd_up_to}
use Rattle.step.proofs.qmf.sum.Given as goal

abbrev pub invariant-loop-i : goal.invariant-loop-i
invariant-loop-i l = record { even_so_far : l.even ≡ even_up_to l.x l.i; odd_so_far : l.odd ≡ odd_up_to l.x l.i }
