use Rattle.std.proofs.Common.{◌-◌, length}
use Rattle.rows.proofs.Writing.{Writing}
use Rattle.rows.proofs.write_rows.Given as goal

abbrev pub invariant-loop-i : goal.invariant-loop-i
invariant-loop-i l = Writing l.first l.samples l.initial.out l.out l.at l.i

abbrev pub decreases-loop-i : goal.decreases-loop-i
decreases-loop-i l = length l.samples - l.i
