use Rattle.fixed.specs.Number.{signed_by}
use Rattle.fixed.proofs.Wide.{gives, neg, to, var}
use Rattle.fixed.proofs.Half.{negative}
use Rattle.fixed.proofs.Signed.{taken}
use Rattle.fixed.proofs.signed_by.Goals as goal

pub returns-then-x-lt0 : goal.returns-then-x-lt0
unfolding signed_by
returns-then-x-lt0 c = gives (to (neg (var c.requires tt) tt) (taken _ _ (negative c.ranges.x c.if-x-lt0.true)))

pub returns-else-x-lt0 : goal.returns-else-x-lt0
unfolding signed_by
returns-else-x-lt0 c = gives (to (var c.requires tt) (taken _ _ (negative c.ranges.x c.if-x-lt0.false)))
