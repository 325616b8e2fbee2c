use Rattle.std.proofs.Common.{◌≤◌}
use Rattle.replay.proofs.list.run.Given as goal

abbrev pub invariant-loop-piece : goal.invariant-loop-piece
invariant-loop-piece g l = l.held ≤ 65536
