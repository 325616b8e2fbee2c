use Rattle.std.proofs.Common.{Some, pos, get_or, drop, ◌∙◌, arith, rules}
use lib.ListN.{length-drop}
use Rattle.std.proofs.lemmas.List.{take_all}
use Rattle.g722.specs.Session.{session_at}
use Rattle.mark.proofs.Words.{natural, failed, converted}
use Rattle.mark.proofs.Restoring.{rate_out, position_out, filters_out, all_in}
use Rattle.mark.proofs.reading.said_by.Goals as goal

pub returns : goal.returns
returns g c =
    let vs = c.args.numbers.now in
    let rate = natural (get_or vs 0 (pos 0)) _ (search rules) c.try_from.ensures in
    let position = natural (get_or vs 1 (pos 0)) _ (search rules) c.try_from-2.ensures in
    let r = converted _ _ _ rate c.in_ok-rate.ensures.value in
    let p = converted _ _ _ position c.in_ok-position.ensures.value in
    (λ i. Some (session_at {K = g.row.K.Denot} (r.1 i) (c.start_of.ensures i) (p.1 i) c.in_ok-filters.filters))
    ∙ all_in _ vs c.requires r.0 p.0 _ (rw (take_all 70 (drop 2 vs) (omega (arith, length-drop 2 vs))) at c.in_ok-filters.ensures)

pub returns-in_err-rate : goal.returns-in_err-rate
returns-in_err-rate g c =
    let rate = natural (get_or c.args.numbers.now 0 (pos 0)) _ (search rules) c.try_from.ensures in
    c.from_residual.ensures ∙ rate_out _ _ c.requires (failed _ _ rate c.in_err-rate.ensures.value)

pub returns-in_err-position : goal.returns-in_err-position
returns-in_err-position g c =
    let rate = natural (get_or c.args.numbers.now 0 (pos 0)) _ (search rules) c.try_from.ensures in
    let position = natural (get_or c.args.numbers.now 1 (pos 0)) _ (search rules) c.try_from-2.ensures in
    c.from_residual-in_err-position.ensures
    ∙ position_out _ _ c.requires (converted _ _ _ rate c.in_ok-rate.ensures.value).0
    (failed _ _ position c.in_err-position.ensures.value)

pub returns-in_err-filters : goal.returns-in_err-filters
returns-in_err-filters g c =
    let vs = c.args.numbers.now in
    let rate = natural (get_or vs 0 (pos 0)) _ (search rules) c.try_from.ensures in
    let position = natural (get_or vs 1 (pos 0)) _ (search rules) c.try_from-2.ensures in
    c.from_residual-in_err-filters.ensures
    ∙ filters_out _ vs c.requires (converted _ _ _ rate c.in_ok-rate.ensures.value).0
    (converted _ _ _ position c.in_ok-position.ensures.value).0 (rw (take_all 70 (drop 2 vs) (omega (arith, length-drop 2 vs))) at c.in_err-filters.ensures)
