use lib.Dec.{lit<}
use lib.IntN.{ℤ, pos}
use mathlib.Core.Path.{◌≡◌, ◌∙◌, sym}
use Rattle.fixed.proofs.Half.{H, h2, half, rh}
use Rattle.fixed.proofs.Signed.{taken}
use Rattle.band.specs.Quantise.{below, place_high}
use Rattle.band.proofs.quantise.place_high.Goals as goal

level : {w det : ℤ} → H w w → H det det → below (rh w) (rh det) (pos 564) ≡ below w det (pos 564)
level w det = h2 w det (λ (x y : ℤ). below x y (pos 564))

pub returns-then-below : goal.returns-then-below
unfolding place_high
returns-then-below c = (taken 1 2 (sym (c.below.ensures ∙ level (half c.ranges.w) (half c.ranges.det)) ∙ c.if-below.true), lit< tt)

pub returns-else-below : goal.returns-else-below
unfolding place_high
returns-else-below c = (taken 1 2 (sym (c.below.ensures ∙ level (half c.ranges.w) (half c.ranges.det)) ∙ c.if-below.false), lit< tt)
