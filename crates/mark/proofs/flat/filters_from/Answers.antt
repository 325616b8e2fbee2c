use Rattle.std.proofs.Common.{drop, ap, ◌∙◌, arith}
use lib.ListN.{length-drop}
use Rattle.std.proofs.lemmas.List.{take_all}
use Rattle.mark.specs.Numbers.{band_of, filters_of}
use Rattle.mark.proofs.flat.filters_from.Goals as goal

pub returns : goal.returns
unfolding filters_of
returns c =
    let vs = c.args.words.now in
    let low = c.band_of.ensures ∙ ap band_of (take_all 46 (drop 24 vs) (omega (arith, length-drop 24 vs))) in
    let high = c.band_of-2.ensures ∙ ap band_of (take_all 23 (drop 47 vs) (omega (arith, length-drop 47 vs))) in
    λ i. record { x = c.copy_from_slice.ensures.after i; low = low i; high = high i }
