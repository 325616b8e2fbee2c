use Rattle.std.proofs.Common.{◌≡◌, ◌+◌, ◌<◌, ◌++◌, [], ◌∷◌, List, ℕ, pos, length, drop, sym, set, arith}
use Rattle.std.proofs.Math.ListN.{length-set}
use Rattle.std.proofs.Math.Seq.{sets-eq}
use mir.Syntax.{w64}
use mir.Facts.{to_z_pos}
use Rattle.std.proofs.lemmas.List.Edits.{sets}
use Rattle.text.specs.Number.{decimal}
use Rattle.rows.specs.Text.{end_word, end_text}
use Rattle.rows.proofs.Texts.{two_length, two_stored, index_length}
use Rattle.rows.proofs.write_end.Goals as goal
use Rattle.rows.proofs.write_end.Goals.{After-write_number-end}

-- the word and its tab, and what stood behind them
after_word : (out q : List ℕ) → length out ≡ 15 → q ≡ 101 ∷ 110 ∷ 100 ∷ 9 ∷ [] → q ++ drop 4 out ≡ set (sets out 0 end_word) 3 9
after_word out q l e = rw e (sym (sets-eq (101 ∷ 110 ∷ 100 ∷ 9 ∷ []) out 0 (omega (arith, l))))

pub write_number-end-requires : goal.write_number-end-requires
write_number-end-requires c =
    let word = after_word c.args.out.now _ c.told-out c.copy_from_slice.ensures.after in
    rw (to_z_pos w64 {n = c.args.total} (omega arith), word) (simp length-set (omega (arith, c.told-out, index_length c.args.total c.requires)))

-- after the total
after_total : (c : After-write_number-end) →
    (c.write_number-end.result ≡ 4 + length (decimal (pos c.args.total)))
    × (c.write_number-end.new.out ≡ sets (set (sets c.args.out.now 0 end_word) 3 9) 4 (decimal (pos c.args.total)))
after_total c =
    let e = to_z_pos w64 {n = c.args.total} (omega arith) in
    let word = after_word c.args.out.now _ c.told-out c.copy_from_slice.ensures.after in
    (rw e at c.write_number-end.ensures.value, rw (e, word) at c.write_number-end.ensures.out_after)

newline_inside : (c : After-write_number-end) → c.write_number-end.result < 15
newline_inside c = omega (arith, (after_total c).0, index_length c.args.total c.requires)

pub bounds-out-end : goal.bounds-out-end
bounds-out-end c = newline_inside (goal.at.bounds-out-end c).After-write_number-end

pub overflow_add-result : goal.overflow_add-result
overflow_add-result c = omega (arith, newline_inside (goal.at.overflow_add-result c).After-write_number-end)

pub returns-clause-answer : goal.returns-clause-answer
unfolding end_text
returns-clause-answer c =
    let e = after_total (goal.at.returns-clause-answer c).After-write_number-end in
    omega (arith, e.0, two_length end_word (decimal (pos c.args.total)))

pub returns-clause-written : goal.returns-clause-written
unfolding end_text
returns-clause-written c =
    let e = after_total (goal.at.returns-clause-written c).After-write_number-end in
    rw (e.0, e.1) (sym (two_stored end_word (decimal (pos c.args.total)) c.args.out.now 0))

pub returns-clause-within : goal.returns-clause-within
returns-clause-within c =
    simp length-set (omega (arith, newline_inside (goal.at.returns-clause-within c).After-write_number-end, c.write_number-end.auto.out))
