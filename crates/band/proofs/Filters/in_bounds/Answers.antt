use borrow.Author.Rules.{rules}
use borrow.Author.Tests.{eq-eqb}
use mathlib.Core.Bool.{true, ◌&&◌}
use mathlib.Core.Path.{◌≡◌, sym}
use lib.ListN.{length}
use Rattle.band.specs.Bounds.{all_words, filters_in_bounds}
use Rattle.band.proofs.Boxes.{both, array_words}
use Rattle.band.proofs.Filters.in_bounds.Goals as goal

pub returns : goal.returns
unfolding filters_in_bounds
returns c =
    let long : length c.args.self.x ≡ 24 = search rules in
    let words : all_words c.args.self.x ≡ true = search (array_words) in
    let x = both (eq-eqb _ _ long) words in
    λ i. sym x i && (c.in_bounds-low_in.ensures i && c.in_bounds-high_in.ensures i)
