use Rattle.std.proofs.Common.{◌≡◌, ◌++◌, length, take, drop, sym, ◌∙◌, arith}
use Rattle.std.proofs.Math.Seq.{length-take-le}
use Rattle.rows.specs.Listing.{rows_for, rows_of}
use Rattle.rows.proofs.Pieces.{Decoded, decoded, list_refused, list_done}
use Rattle.rows.proofs.list.Goals as goal
use Rattle.rows.proofs.list.Goals.{After-rows_for-room, In-Ok}

-- the rows that there is room for are no more than the samples
room_is : (c : After-rows_for-room) → length (take c.rows_for-room.result c.sample_room-samples.result) ≡ rows_for (length c.args.out.now)
room_is c = length-take-le _ _ (omega arith) ∙ c.rows_for-room.ensures

here : (c : In-Ok) → let a = c.args in
    Decoded a.first a.session a.input.now a.out.now
    (c.decode-answer.new.out ++ drop c.rows_for-room.result c.sample_room-samples.result) c.decode-answer.result c.in-Ok.n
here c =
    decoded _ _ _ _ _ _ _ _ _ c.sample_room-samples.ensures c.rows_for-room.ensures c.decode-answer.ensures.answer
    c.decode-answer.ensures.written c.in-Ok.is

pub slice_bounds-samples-end-in-Ok : goal.slice_bounds-samples-end-in-Ok
slice_bounds-samples-end-in-Ok c = (here (goal.at.slice_bounds-samples-end-in-Ok c).In-Ok).inside

pub slice_bounds-write_rows-end : goal.slice_bounds-write_rows-end
slice_bounds-write_rows-end c = sym (length-take-le _ _ (here (goal.at.slice_bounds-write_rows-end c).In-Ok).inside)

pub write_rows-requires-clause-samples_in_bounds : goal.write_rows-requires-clause-samples_in_bounds
write_rows-requires-clause-samples_in_bounds c =
    let h = here (goal.at.write_rows-requires-clause-samples_in_bounds c).In-Ok in
    rw h.samples h.roomy

pub returns-in-Ok-clause-answer : goal.returns-in-Ok-clause-answer
unfolding rows_of
returns-in-Ok-clause-answer c =
    let w = c.write_rows.ensures in
    let h = here (goal.at.returns-in-Ok-clause-answer c).In-Ok in
    rw h.session (list_done _ _ _ _ _ _ h.is_done (rw h.samples at w.value) (rw h.samples at w.out_after)).0

pub returns-in-Ok-clause-written : goal.returns-in-Ok-clause-written
unfolding rows_of
returns-in-Ok-clause-written c =
    let w = c.write_rows.ensures in
    let h = here (goal.at.returns-in-Ok-clause-written c).In-Ok in
    (list_done _ _ _ _ _ _ h.is_done (rw h.samples at w.value) (rw h.samples at w.out_after)).1

pub returns-in-Err-clause-answer : goal.returns-in-Err-clause-answer
returns-in-Err-clause-answer c =
    (list_refused c.args.first c.args.session c.args.input.now c.args.out.now _ _ (room_is (goal.at.returns-in-Err-clause-answer c).After-rows_for-room) c.decode-answer.ensures.answer c.in-Err.is).0

pub returns-in-Err-clause-written : goal.returns-in-Err-clause-written
returns-in-Err-clause-written c =
    (list_refused c.args.first c.args.session c.args.input.now c.args.out.now _ _ (room_is (goal.at.returns-in-Err-clause-written c).After-rows_for-room) c.decode-answer.ensures.answer c.in-Err.is).1.0
