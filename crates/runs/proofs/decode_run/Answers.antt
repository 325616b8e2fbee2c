-- A byte's samples a turn.
use Rattle.std.proofs.Common.{rules, arith, length-set, get_or}
use mir.Syntax.{w16}
use mir.Val.{SFits}
use mir.Facts.{to_z-of_z}
use Rattle.step.specs.Step.{decode_step}
use Rattle.runs.proofs.RateLaws.{some_samples}
use Rattle.runs.proofs.Pairs.{kept_both, kept_first}
use Rattle.runs.proofs.Loops.{decodes_none, decodes_more, decodes_all}
use Rattle.runs.proofs.decode_run.Goals as goal
use Rattle.runs.proofs.decode_run.Goals.{then-n-eq2, else-n-eq2}

pub loop-byte-init : goal.loop-byte-init
loop-byte-init c = decodes_none _ _ _ _ c.requires

pub bounds-out-o : goal.bounds-out-o
bounds-out-o c = omega (arith, (decodes_more _ _ _ _ _ _ _ _ c.loop-byte.invariant c.loop-byte-test.true).0, some_samples c.args.rate)

pub bounds-out-o-then-n-eq2 : goal.bounds-out-o-then-n-eq2
bounds-out-o-then-n-eq2 c =
    rw length-set (omega (arith, c.samples_a_byte-n.ensures, c.if-n-eq2.true, (decodes_more _ _ _ _ _ _ _ _ c.loop-byte.invariant c.loop-byte-test.true).0))

pub loop-byte-preserved : goal.loop-byte-preserved
loop-byte-preserved c =
    let decoded = c.decode_step-decoded in
    let first : SFits w16 decoded.result.first = search rules in
    let second : SFits w16 decoded.result.second = search rules in
    let t = decode_step c.loop-byte.g (get_or c.args.input.now c.loop-byte.byte-index 0) in
    let more = (decodes_more _ _ _ _ _ _ _ _ c.loop-byte.invariant c.loop-byte-test.true).1 in
    elim c.if-n-eq2.branch [
      | then-n-eq2 w ↦
          let two = rw c.samples_a_byte-n.ensures at w.if-n-eq2.true in
          rw (w.out-is, c.samples_a_byte-n.ensures, to_z-of_z first, to_z-of_z second, decoded.ensures, kept_both c.args.rate t.first t.second _ _ two) more
      | else-n-eq2 w ↦
          let one = rw c.samples_a_byte-n.ensures at w.if-n-eq2.false in
          rw (w.out-is, c.samples_a_byte-n.ensures, to_z-of_z first, decoded.ensures, kept_first c.args.rate t.first t.second _ _ one) more
    ]

pub returns-clause-value : goal.returns-clause-value
returns-clause-value c = (decodes_all _ _ _ _ _ _ _ _ c.loop-byte.invariant c.loop-byte-test.false).0

pub returns-clause-out_after : goal.returns-clause-out_after
returns-clause-out_after c = (decodes_all _ _ _ _ _ _ _ _ c.loop-byte.invariant c.loop-byte-test.false).1
