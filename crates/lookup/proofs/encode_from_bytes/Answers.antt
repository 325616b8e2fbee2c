-- The byte of a pair a turn.
use Rattle.std.proofs.Common.{rules, w16, ap, ◌∙◌}
use Rattle.std.proofs.lemmas.Int.{to_z-of_z}
use Rattle.samples.proofs.Bytes.{pair_turn}
use Rattle.lookup.proofs.encode_from_bytes.Goals as goal

pub loop-i-preserved : goal.loop-i-preserved
loop-i-preserved g c =
    let steps = c.in-Some.ensures.steps in
    let e = c.byte.ensures ∙ ap g.L.Law.byte (to_z-of_z w16 c.sample.result (search rules) ∙ c.sample.ensures) in
    record {
      can_next = search rules;
      is_finite = search rules;
      two = search rules;
      pairs = rw (steps.1, steps.2) (pair_turn c.loop-i.invariant.pairs c.in-Some.pair.now _ steps.0.1.0 (search rules) e);
    }
