-- A turn encodes a piece.
use mathlib.Core.Path.{◌∙◌}
use Rattle.std.proofs.Common.{arith, rules, ◌<◌, ◌^◌, length}
use Rattle.pieces.proofs.Encodes.{encodes_none, inside, room, encodes_more, encodes_all}
use Rattle.pieces.proofs.encode.Goals as goal

pub loop-part-init : goal.loop-part-init
loop-part-init c =
    let made = c.into_iter-part-iterator.ensures.into_iter_gives in
    let chunks = c.chunks-part-items.ensures in
    record {
      can_next = search rules;
      is_finite = tt;
      size = rw made chunks.size;
      encodes = rw (made, chunks.rest) (encodes_none _ _ _ _ c.requires.input_len.0 c.requires.input_len.1 c.requires.input_in_bounds);
    }

pub encode_run-f-requires : goal.encode_run-f-requires
encode_run-f-requires c =
    let steps = c.in-Some.ensures.steps in
    room _ c.loop-part.invariant.encodes _ _ steps.1.0 _ steps.1.1 c.loop-part.invariant.size c.unpack.ensures

pub overflow_add-o : goal.overflow_add-o
overflow_add-o c =
    let steps = c.in-Some.ensures.steps in
    let short : length c.args.out.now < 2 ^ 63 = search rules in
    omega (arith, c.encode_room-o.ensures, inside _ c.loop-part.invariant.encodes _ _ steps.1.0 _ steps.1.1 c.loop-part.invariant.size)

pub loop-part-preserved : goal.loop-part-preserved
loop-part-preserved c =
    let steps = c.in-Some.ensures.steps in
    let encoded = c.encode_run-f.ensures in
    record {
      can_next = search rules;
      is_finite = tt;
      size = steps.0 ∙ c.loop-part.invariant.size;
      encodes = rw c.encode_room-o.ensures
          (encodes_more _ c.loop-part.invariant.encodes _ _ steps.1.0 _ steps.1.1 c.loop-part.invariant.size c.unpack.ensures encoded.value encoded.out_after);
    }

pub returns-clause-value : goal.returns-clause-value
returns-clause-value c = (encodes_all _ c.loop-part.invariant.encodes c.in-None.ensures.steps.1.0).0

pub returns-clause-out_after : goal.returns-clause-out_after
returns-clause-out_after c = (encodes_all _ c.loop-part.invariant.encodes c.in-None.ensures.steps.1.0).1
