-- A turn decodes a piece.
use mathlib.Core.Path.{◌∙◌, sym}
use Rattle.std.proofs.Common.{arith, rules, ◌<◌, ◌^◌, length}
use Rattle.pieces.proofs.Decodes.{decodes_none, fits, front_long, inside, room, decodes_more, decodes_all}
use Rattle.pieces.proofs.decode.Goals as goal

pub loop-part-init : goal.loop-part-init
loop-part-init c =
    let made = c.into_iter-part-iterator.ensures.into_iter_gives in
    let chunks = c.chunks-part-items.ensures in
    record { can_next = search rules; is_finite = tt; size = rw made chunks.size; decodes = rw (made, chunks.rest) (decodes_none _ _ _ _ c.requires) }

pub slice_bounds-piece-end : goal.slice_bounds-piece-end
slice_bounds-piece-end c =
    let steps = c.in-Some.ensures.steps in
    omega (arith, fits _ _ _ steps.1.1 c.loop-part.invariant.size c.decode_room-n.ensures)

pub slice_bounds-decoded-end : goal.slice_bounds-decoded-end
slice_bounds-decoded-end c =
    let steps = c.in-Some.ensures.steps in
    c.decode_room-n.ensures ∙ sym (front_long _ _ _ steps.1.1 c.loop-part.invariant.size c.decode_room-n.ensures _ c.decode_room-n.array_long)

pub decode_run-f-requires : goal.decode_run-f-requires
decode_run-f-requires c =
    let steps = c.in-Some.ensures.steps in
    omega (arith, front_long _ _ _ steps.1.1 c.loop-part.invariant.size c.decode_room-n.ensures _ c.decode_room-n.array_long)

pub pack-requires : goal.pack-requires
pack-requires c =
    let steps = c.in-Some.ensures.steps in
    let long = front_long _ _ _ steps.1.1 c.loop-part.invariant.size c.decode_room-n.ensures _ c.decode_room-n.array_long in
    room _ c.loop-part.invariant.decodes _ _ steps.1.0 _ long c.decode_run-f.ensures.out_after

pub overflow_mul-o : goal.overflow_mul-o
overflow_mul-o c =
    let steps = c.in-Some.ensures.steps in
    omega (arith, fits _ _ _ steps.1.1 c.loop-part.invariant.size c.decode_room-n.ensures)

pub overflow_add-o : goal.overflow_add-o
overflow_add-o c =
    let steps = c.in-Some.ensures.steps in
    let short : length c.args.out.now < 2 ^ 63 = search rules in
    omega (arith, c.decode_room-n.ensures, inside _ c.loop-part.invariant.decodes c.in-Some.part.now _ steps.1.0)

pub loop-part-preserved : goal.loop-part-preserved
loop-part-preserved c =
    let steps = c.in-Some.ensures.steps in
    let long = front_long _ _ _ steps.1.1 c.loop-part.invariant.size c.decode_room-n.ensures _ c.decode_room-n.array_long in
    let decoded = c.decode_run-f.ensures in
    record {
      can_next = search rules;
      is_finite = tt;
      size = steps.0 ∙ c.loop-part.invariant.size;
      decodes = rw c.decode_room-n.ensures
          (decodes_more _ c.loop-part.invariant.decodes _ _ steps.1.0 _ long decoded.out_after decoded.value c.pack.ensures);
    }

pub returns-clause-value : goal.returns-clause-value
returns-clause-value c = (decodes_all _ c.loop-part.invariant.decodes c.in-None.ensures.steps.1.0).0

pub returns-clause-out_after : goal.returns-clause-out_after
returns-clause-out_after c = (decodes_all _ c.loop-part.invariant.decodes c.in-None.ensures.steps.1.0).1
