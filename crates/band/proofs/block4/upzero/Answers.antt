use lib.IntN.{pos}
use Rattle.fixed.specs.Number.{sat}
use Rattle.fixed.proofs.Wide.{add, at1, call, lit, var}
use Rattle.fixed.proofs.Half.{answer, half, scales, signs}
use Rattle.band.proofs.block4.upzero.Goals as goal

pub returns : goal.returns
returns c =
    let turned = call c.signed_by.ensures (signs (half c.ranges.di) (var c.requires tt)) tt in
    let leak = call c.scaled.ensures (scales (half c.ranges.bi) (lit (pos 32640) tt)) tt in
    answer c.saturate.ensures (at1 (add turned leak tt) sat) c.saturate.type_inv
