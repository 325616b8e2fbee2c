use mathlib.Core.Path.{ap, ap₂, ◌∙◌}
use mir.Facts.{to_z-of_z}
use Rattle.band.specs.Fresh.{fresh_band, fresh_filters, empty_filters}
use Rattle.band.proofs.Filters.fresh.Goals as goal

-- a signed argument goes by its bits: `to_z-of_z` takes the number back out of them
pub returns : goal.returns
unfolding fresh_filters
returns c =
    ap₂ empty_filters
    (c.fresh-low.ensures ∙ ap fresh_band (to_z-of_z c.ranges.low_det))
    (c.fresh-high.ensures ∙ ap fresh_band (to_z-of_z c.ranges.high_det))
