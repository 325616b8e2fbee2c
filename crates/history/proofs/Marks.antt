-- Marks, of either kind by its letter: what writing and restoring make of a session.
use Prim.Native.Nat.{ℕ, zero, suc, ◌≤◌}
use native.Mathlib.Omega.{arith}
use mathlib.Core.Path.{◌≡◌, refl, sym, ◌∙◌}
use mathlib.Core.Bool.{Bool, true, not, cond}
use mathlib.Core.List.{List}
use lib.IntN.{ℤ}
use lib.ListN.{length}
use lib.Dec.{eqb}
use borrow.Author.Tests.{ne_eqb}
use Rattle.std.specs.Prelude.{Option, Some, None}
use Rattle.answers.specs.Outcomes.{number_of, reply}
use Rattle.g722.specs.declared.Session.{Session}
use Rattle.g722.specs.Session.{in_bounds}
use Rattle.text.proofs.Tests.{either}
use Rattle.line.specs.Line.{read_line, line_numbers}
use Rattle.line.specs.declared.Line.{Line}
use Rattle.mark.specs.Answer.{number_count, numbers_in_bounds, text_number, restore_number, restored_session}
use Rattle.mark.specs.Marks.{session_line, write_answer, restore_answer}
use Rattle.mark.proofs.Short as short
use Rattle.mark.proofs.Marks.{wrote_number, session_restored}
use Rattle.history.specs.Reply.{reply_of}
use Rattle.history.proofs.Answered.{answered, answered_is, refused_given}

restore_small : (within : Bool) (letter : ℕ) (text : List ℕ) → restore_number within letter text ≤ 8
unfolding restore_number
restore_small within letter text =
    either (λ n. n ≤ 8) (not within) (omega arith) (go (line_numbers number_count text) (read_line number_count text))
  where
    go : (vs : List ℤ) (l : Option Line) → text_number letter (length text) vs l ≤ 8
    go vs None = omega arith
    go vs (Some l) =
        either (λ n. n ≤ 8) (not (eqb l.count (length text))) (omega arith)
        (either (λ n. n ≤ 8) (not (eqb l.kind letter)) (omega arith) (either (λ n. n ≤ 8) (not (numbers_in_bounds vs)) (omega arith) (omega arith)))

-- an answer that is told apart by its number, read as a reply
by_number : {S : Type 0} (number : ℕ) (next s : S) → number ≤ 8
    → reply_of (cond (eqb number 0) (reply 0 0 next) (reply number 0 s)) ≡ answered number 0 next s
by_number zero next s h = refl
by_number {S} (suc n) next s h =
    let z = ne_eqb (suc n) 0 (λ e. omega (arith, e)) in
    let refused = answered_is {S = S} (suc n) 0 next s h in
    rw z (rw z at refused)

module _ {K : Type 0} (letter : ℕ) (s : Session K) where
  pub write_same : (room : ℕ) → (write_answer letter s room).session ≡ s
  unfolding write_answer
  write_same room = refl

  pub restore_same : (text : List ℕ) → ¬ (number_of (restore_answer letter s text).outcome ≡ 0) → (restore_answer letter s text).session ≡ s
  unfolding restore_answer
  restore_same text e = refused_given (restore_number (in_bounds s) letter text) (restored_session s text) s e

  -- restoring, as a reply by its number
  pub restore_is : (text : List ℕ) → reply_of (restore_answer letter s text)
      ≡ answered (restore_number (in_bounds s) letter text) 0 (restored_session s text) s
  unfolding restore_answer
  restore_is text =
      by_number (restore_number (in_bounds s) letter text) (restored_session s text) s (restore_small (in_bounds s) letter text)

  module _ (i : in_bounds s ≡ true) where
    pub write_not_2 : (room : ℕ) → ¬ (number_of (write_answer letter s room).outcome ≡ 2)
    write_not_2 room e = short.write_not_2 (in_bounds s) (session_line letter s) room i (sym (wrote_number letter s room) ∙ e)

    pub restore_not_2 : (text : List ℕ) → ¬ (number_of (restore_answer letter s text).outcome ≡ 2)
    restore_not_2 text =
        session_restored letter s text i (λ a. ¬ (number_of a.outcome ≡ 2)) (λ t j z. omega (arith, z)) (λ z. omega (arith, z)) (λ z. omega (arith, z))
        (λ z. omega (arith, z))
