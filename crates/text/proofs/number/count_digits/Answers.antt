use Rattle.std.proofs.Common.{rules, tests, ◌∙◌}
use Rattle.std.proofs.lemmas.Iterator.{YieldsList-from_slice}
use Rattle.std.proofs.lemmas.Iterator.Consumers.{count_from_yields_List}
use Rattle.std.proofs.lemmas.Iterator.Search.{YieldsList-from_take_while}
use Rattle.std.proofs.lemmas.List.Folds.{length-prefix_len}
use Rattle.std.specs.Char.{is_ascii_digit}
use Rattle.text.proofs.Scan.{prefix_is}
use Rattle.text.proofs.number.count_digits.Goals as goal

pub returns : goal.returns
returns c =
    let s = c.args.s.now in
    let taken = c.take_while.ensures in
    count_from_yields_List c.take_while.result _ c.count.ensures.ran
    (YieldsList-from_take_while _ is_ascii_digit (YieldsList-from_slice s cc) taken.closure taken.done (λ x b q k. search (rules, tests)))
    ∙ length-prefix_len is_ascii_digit s ∙ prefix_is s
