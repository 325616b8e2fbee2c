use Rattle.fixed.proofs.Wide.{call, gives, to, var}
use Rattle.fixed.proofs.Half.{half, signs}
use Rattle.fixed.proofs.Signs.{twice_signed}
use Rattle.fixed.proofs.by_signs.Goals as goal

pub returns : goal.returns
returns c =
    let once = call c.signed_by.ensures (signs (half c.ranges.y) (var c.requires tt)) tt in
    let twice = call c.signed_by-2.ensures (signs (half c.ranges.x) once) tt in
    gives (to twice (twice_signed c.args.x c.args.y c.args.w))
