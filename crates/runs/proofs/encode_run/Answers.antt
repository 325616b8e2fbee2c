-- A byte a turn.
use Rattle.std.proofs.Common.{rules, ◌≡◌, ap₂, ◌-◌, ◌∙◌, List, ℤ, pos, get_or}
use mir.Syntax.{w16}
use mir.Val.{SFits}
use mir.Facts.{to_z-of_z}
use Rattle.step.specs.Step.{encode_step}
use Rattle.runs.proofs.Loops.{encodes_none, encodes_more, encodes_all}
use Rattle.runs.proofs.encode_run.Goals as goal

pub loop-i-init : goal.loop-i-init
loop-i-init c =
    let made = c.into_iter-i-iterator.ensures.into_iter_gives in
    let source = c.enumerate-i-items.ensures.source in
    record {
      can_next = search rules;
      is_finite = tt;
      size = rw (made, source) (c.chunks_exact.ensures.size ∙ c.samples_a_byte-n.ensures);
      encodes = rw (made, source, c.enumerate-i-items.ensures.count, c.chunks_exact.ensures.rest) (encodes_none _ _ _ _ c.requires);
    }

pub bounds-out-i : goal.bounds-out-i
bounds-out-i c =
    let steps = c.in-Some.ensures.steps in
    let more = encodes_more _ _ _ _ _ _ _ _ c.loop-i.invariant.encodes _ _ steps.0.1.0 (steps.0.1.1 ∙ c.loop-i.invariant.size) in
    rw steps.1 more.0

pub loop-i-preserved : goal.loop-i-preserved
loop-i-preserved c =
    let steps = c.in-Some.ensures.steps in
    let size = c.loop-i.invariant.size in
    let pair : List ℤ = c.in-Some.pair.now in
    let first : SFits w16 (get_or pair 0 (pos 0)) = search rules in
    let second : SFits w16 (get_or pair (c.samples_a_byte-n.result - 1) (pos 0)) = search rules in
    let coded : c.encode_step-coded.result ≡ encode_step c.loop-i.g (get_or pair 0 (pos 0)) (get_or pair (c.samples_a_byte-n.result - 1) (pos 0)) =
    c.encode_step-coded.ensures ∙ ap₂ (encode_step c.loop-i.g) (to_z-of_z first) (to_z-of_z second) in
    let more = encodes_more _ _ _ _ _ _ _ _ c.loop-i.invariant.encodes _ _ steps.0.1.0 (steps.0.1.1 ∙ size) in
    record {
      can_next = search rules;
      is_finite = tt;
      size = steps.0.0 ∙ size;
      encodes = rw (coded, c.samples_a_byte-n.ensures, steps.1, steps.2) more.1;
    }

pub returns-clause-value : goal.returns-clause-value
returns-clause-value c =
    let none = c.in-None.ensures.steps.0.1.0 in
    (encodes_all _ _ _ _ _ _ _ _ c.loop-i.invariant.encodes (rw c.loop-i.invariant.size at none)).0

pub returns-clause-out_after : goal.returns-clause-out_after
returns-clause-out_after c =
    let none = c.in-None.ensures.steps.0.1.0 in
    (encodes_all _ _ _ _ _ _ _ _ c.loop-i.invariant.encodes (rw c.loop-i.invariant.size at none)).1
