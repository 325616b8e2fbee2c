use Rattle.std.proofs.Common.{pos, get_or, refl, arith, rules, FitsSigned}
use mir.Syntax.{w16}
use mir.Facts.{to_z-of_z}
use Rattle.rows.proofs.Writing.{more, ends}
use Rattle.rows.proofs.write_rows.Goals as goal

pub loop-i-preserved : goal.loop-i-preserved
loop-i-preserved c =
    let fits : FitsSigned w16 (get_or c.args.samples.now c.loop-i.i (pos 0)) = search rules in
    let p = rw (to_z-of_z fits) at c.write_row-at.ensures.value in
    let b = rw (to_z-of_z fits) at c.write_row-at.ensures.out_after in
    more c.loop-i.invariant c.loop-i-test.true (omega arith) _ refl fits _ _ p b

pub returns-clause-value : goal.returns-clause-value
returns-clause-value c = (ends c.loop-i.invariant c.requires.samples_in_bounds c.loop-i-test.false).0

pub returns-clause-out_after : goal.returns-clause-out_after
returns-clause-out_after c = (ends c.loop-i.invariant c.requires.samples_in_bounds c.loop-i-test.false).1.0
