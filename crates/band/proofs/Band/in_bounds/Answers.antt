use borrow.Author.Rules.{rules}
use Prim.Native.Nat.{ℕ}
use lib.IntN.{pos}
use lib.ListN.{get_or}
use mathlib.Core.Bool.{true, ◌&&◌}
use mathlib.Core.Path.{◌≡◌, ◌∙◌, sym}
use mir.Syntax.{w16}
use mir.Val.{SFits}
use Rattle.fixed.specs.Number.{minus}
use Rattle.fixed.proofs.Wide.{any, at1, at2, at3, fits16_of, from16, lit, neg, sub}
use Rattle.band.specs.declared.Band.{Band}
use Rattle.band.specs.Bounds.{a2_most, a1_and_a2_most, det_most, all_words, all_between, band_in_bounds, between, numbers}
use Rattle.band.proofs.Boxes.{band_in, word_at, word_told}
use Rattle.band.proofs.Band.in_bounds.Goals as goal

-- the band's number i, in the order of its bounds
field : (k : Band) → all_words (numbers k) ≡ true → (i : ℕ) → SFits w16 (get_or (numbers k) i (pos 0))
field k words i = fits16_of (word_at (numbers k) words i)

pub returns : goal.returns
unfolding band_in_bounds all_between
returns c =
    let words : all_words (numbers c.args.self) ≡ true = search (rules, band_in, word_told) in
    let at = field c.args.self words in
    let rest = sub (lit (pos a1_and_a2_most) tt) (from16 (at 6)) tt in
    let a2 = c.within.ensures ∙ at1 (from16 (at 6)) (between (minus a2_most) (pos a2_most)) in
    let a1 = c.within-2.ensures ∙ at3 (neg rest tt) rest (from16 (at 5)) between in
    let nb = c.within-3.ensures ∙ at2 (any c.ranges.most) (from16 (at 21)) (between (pos 0)) in
    let det = c.within-4.ensures ∙ at1 (from16 (at 22)) (between (pos 0) (pos det_most)) in
    λ i. sym words i && (((a2 i && a1 i) && nb i) && det i)
