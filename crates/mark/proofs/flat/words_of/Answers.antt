use Rattle.std.proofs.Common.{◌≡◌, ◌∷◌, ◌++◌, [], pos, get_or, Some, refl, sym, ap, ◌∙◌, arith, rules, w16, to_z, of_z}
use lib.ListN.{length-set}
use mir.Facts.{to_z-of_z}
use Rattle.std.proofs.lemmas.List.{take_more, take_more_set, take_all}
use Rattle.band.proofs.Boxes.{no_words}
use Rattle.mark.proofs.Words.{narrow, failed, converted, no_word, one_word}
use Rattle.mark.proofs.flat.words_of.Goals as goal

pub loop-i-init : goal.loop-i-init
loop-i-init c = record { long = refl; same = refl; words = no_words }

pub loop-i-preserved : goal.loop-i-preserved
loop-i-preserved c =
    let vs = c.args.numbers.now in
    let i = c.loop-i.i in
    let tried = narrow (get_or vs i (pos 0)) _ (search rules) c.try_from.ensures in
    let word = converted _ _ _ tried c.in_ok-words.ensures.value in
    let stored : to_z w16 (of_z w16 c.in_ok-words.field-0) ≡ get_or vs i (pos 0) = rw word.1 (to_z-of_z word.0) in
    record {
      long = length-set c.loop-i.words i _ ∙ c.loop-i.invariant.long;
      same = take_more_set c.loop-i.words i _ (omega arith)
          ∙ (λ k. c.loop-i.invariant.same k ++ stored k ∷ [])
          ∙ sym (take_more vs i (pos 0) (omega arith));
      words = one_word vs i (omega arith) word.0 c.loop-i.invariant.words;
    }

pub returns : goal.returns
returns c =
    let all = take_all c.loop-i.i c.args.numbers.now (omega arith) in
    let same = sym (take_all c.loop-i.i c.loop-i.words (omega arith)) ∙ c.loop-i.invariant.same ∙ all in
    rw (rw all at c.loop-i.invariant.words) (ap Some same)

pub returns-in_err-words : goal.returns-in_err-words
returns-in_err-words c =
    let vs = c.args.numbers.now in
    let tried = narrow (get_or vs c.loop-i.i (pos 0)) _ (search rules) c.try_from.ensures in
    c.from_residual.ensures ∙ rw (no_word vs c.loop-i.i (failed _ _ tried c.in_err-words.ensures.value))
