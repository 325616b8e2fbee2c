use Rattle.fixed.specs.Number.{sat, tapped}
use Rattle.fixed.proofs.Wide.{add, at1, call}
use Rattle.fixed.proofs.Half.{answer, h2, half}
use Rattle.band.proofs.block4.filtep.Goals as goal

pub returns : goal.returns
returns c =
    let t1 = call c.tap.ensures (h2 (half c.ranges.a1) (half c.ranges.r1) tapped) tt in
    let t2 = call c.tap-2.ensures (h2 (half c.ranges.a2) (half c.ranges.r2) tapped) tt in
    answer c.saturate.ensures (at1 (add t1 t2 tt) sat) c.saturate.type_inv
