-- The bytes that fit are taken, and they are no more than came.
use Rattle.std.proofs.Common.{◌≡◌, arith, length, take, length-take}
use Rattle.rows.specs.Listing.{fitting_bytes}
use Rattle.rows.proofs.Stops.{ready_fitting}
use Rattle.listing.proofs.list_all.Goals as goal

pub slice_bounds-input-end : goal.slice_bounds-input-end
unfolding fitting_bytes
slice_bounds-input-end g c = omega (arith, c.fitting-fit.ensures, c.in_ok-n.ensures.bound.0)

pub slice_bounds-list_bytes-end : goal.slice_bounds-list_bytes-end
unfolding fitting_bytes
slice_bounds-list_bytes-end g c = simp length-take (omega (arith, c.fitting-fit.ensures, c.in_ok-n.ensures.bound.0))

pub list_bytes-requires-clause-ready : goal.list_bytes-requires-clause-ready
unfolding fitting_bytes
list_bytes-requires-clause-ready g c =
    let n = c.fitting-fit.result in
    let taken : length (take n c.read.new.buf) ≡ n = simp length-take (omega (arith, c.fitting-fit.ensures, c.in_ok-n.ensures.bound.0)) in
    rw (taken, c.fitting-fit.ensures) (ready_fitting c.loop-turn.session c.in_ok-n.n c.loop-turn.invariant)
