use Rattle.std.proofs.Common.{rules, ◌≡◌, ◌∷◌, ◌++◌, [], pos, refl, sym, ap, ◌∙◌, ◌+◌, ℕ, take, get_or, arith, w64, to_z, of_z}
use lib.ListN.{length-set, set}
use Rattle.std.proofs.lemmas.List.{take_more, take_more_set, take_all}
use Rattle.mark.proofs.flat.numbers_of.Goals as goal

pub loop-i-init : goal.loop-i-init
loop-i-init c =
    let rate : to_z w64 (of_z w64 c.from.result) ≡ pos c.args.rate = search rules in
    let position : to_z w64 (of_z w64 c.from-2.result) ≡ pos c.args.position = search rules in
    record { long = refl; same = λ j. rate j ∷ position j ∷ [] }

pub loop-i-preserved : goal.loop-i-preserved
loop-i-preserved c =
    let i = c.loop-i.i in
    let words = c.filters_numbers-words.result in
    let numbers = c.loop-i.numbers in
    let rate = pos c.args.rate in
    let position = pos c.args.position in
    let stored : to_z w64 (of_z w64 c.from-in-loop-i.result) ≡ get_or words i (pos 0) = search rules in
    record {
      long = length-set numbers (2 + i) _ ∙ c.loop-i.invariant.long;
      same = ap (λ (n : ℕ). take n (set numbers (2 + i) (to_z w64 (of_z w64 c.from-in-loop-i.result)))) (omega arith)
          ∙ take_more_set numbers (2 + i) _ (omega (arith, c.loop-i.invariant.long, c.loop-i-test.true))
          ∙ (λ j. c.loop-i.invariant.same j ++ stored j ∷ [])
          ∙ sym (λ j. rate ∷ position ∷ take_more words i (pos 0) (omega (arith, c.loop-i-test.true)) j);
    }

pub returns : goal.returns
returns c =
    let i = c.loop-i.i in
    let rate = pos c.args.rate in
    let position = pos c.args.position in
    sym (take_all (2 + i) c.loop-i.numbers (omega (arith, c.loop-i.invariant.long, c.loop-i-test.false)))
    ∙ c.loop-i.invariant.same
    ∙ (λ j. rate ∷ position ∷ (take_all i c.filters_numbers-words.result (omega (arith, c.loop-i-test.false)) ∙ c.filters_numbers-words.ensures) j)
