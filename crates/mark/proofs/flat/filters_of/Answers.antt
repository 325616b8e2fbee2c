use Rattle.std.proofs.Common.{ap, ◌∙◌}
use Rattle.std.specs.Bool.{then_some}
use Rattle.band.specs.Bounds.{filters_in_bounds}
use Rattle.mark.specs.Numbers.{filters_of}
use Rattle.mark.proofs.Numbers.{no_filters, these_words}
use Rattle.mark.proofs.flat.filters_of.Goals as goal

pub returns-in_err-words_of : goal.returns-in_err-words_of
returns-in_err-words_of c = c.from_residual.ensures ∙ no_filters _ c.requires c.in_err-words_of.ensures

pub returns : goal.returns
returns c =
    let is = c.filters_from-filters.ensures ∙ ap filters_of (these_words _ _ c.in_ok-words_of.ensures) in
    let inside = c.in_bounds.ensures ∙ ap filters_in_bounds is in
    c.then_some.ensures ∙ λ i. then_some (inside i) (is i)
