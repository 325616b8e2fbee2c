use Rattle.std.proofs.Common.{◌++◌, length, refl, ap, ◌∙◌}
use Rattle.mark.specs.Numbers.{filters_numbers}
use Rattle.mark.proofs.Words.{two_long, three_parts}
use Rattle.mark.proofs.flat.filters_numbers.Goals as goal

pub slice_bounds-words-end-3 : goal.slice_bounds-words-end-3
slice_bounds-words-end-3 c =
    let low = c.copy_from_slice-2.ensures.after ∙ c.band_numbers.ensures in
    two_long c.copy_from_slice.new.self c.copy_from_slice-2.new.self _ c.copy_from_slice.ensures.len (ap length low) refl

pub returns : goal.returns
unfolding filters_numbers
returns c =
    let x = c.copy_from_slice.ensures.after in
    let low = c.copy_from_slice-2.ensures.after ∙ c.band_numbers.ensures in
    let high = c.copy_from_slice-3.ensures.after ∙ c.band_numbers-2.ensures in
    three_parts _ _ _ c.copy_from_slice.ensures.len (ap length low) refl _ ∙ λ i. x i ++ (low i ++ high i)
