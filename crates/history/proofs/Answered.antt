-- An answer by its number: done, with the session that comes next and the items written, or refused, with the session as given.
use Prim.Native.Nat.{ℕ, zero, suc, ◌≤◌}
use native.Mathlib.Omega.{arith}
use mathlib.Core.Path.{◌≡◌, refl, sym, ap, ◌∙◌}
use mathlib.Core.Bool.{Bool, true, false, cond}
use mathlib.Core.List.{List, [], ◌++◌}
use lib.ListN.{length, drop}
use lib.Seq.{take_at}
use lib.Dec.{eqb}
use borrow.Author.Tests.{ne_eqb, lt-ltb}
use Rattle.answers.specs.Numbers.{done, out_of_bounds, odd_count, no_room, position_past_end}
use Rattle.answers.specs.declared.Answer.{Answer}
use Rattle.answers.specs.Outcomes.{number_of, outcome, reply}
use Rattle.answers.proofs.Answered as answers
use Rattle.g722.specs.Session.{begin_number, start_begun}
use Rattle.life.specs.Kind.{Kind, Reply}
use Rattle.life.specs.Life.{given_by}
use Rattle.history.specs.Reply.{reply_of}

abbrev pub answered : {S : Type 0} → ℕ → ℕ → S → S → Reply S
answered number n next s = record { number = number; count = cond (eqb number 0) n 0; session = cond (eqb number 0) next s }

-- an answer of either kind with a number of the table, read as a reply
pub answered_is : {S : Type 0} (number n : ℕ) (next s : S) → number ≤ 8
    → reply_of (reply number n (cond (eqb number 0) next s)) ≡ answered number n next s
answered_is number n next s h i = record { number = answers.number_is number n h i; count = answers.count_is number n i; session = cond (eqb number 0) next s }

-- a refusal hands the session back as given
pub refused_session : {S : Type 0} {r : Reply S} (number n : ℕ) (next s : S) → r ≡ answered number n next s
    → ¬ (r.number ≡ 0) → r.session ≡ s
refused_session {S} number n next s is e =
    let z = ne_eqb number 0 (λ f. e (ap (λ (q : Reply S). q.number) is ∙ f)) in
    rw (is, z)

-- and so does an answer by its number that is not done
pub refused_given : {S : Type 0} (number : ℕ) (next s : S) → let a = cond (eqb number 0) (reply 0 0 next) (reply number 0 s) in
    ¬ (number_of a.outcome ≡ 0) → a.session ≡ s
refused_given {S} number next s = by_test (eqb number 0)
  where
    by_test : (t : Bool) → let a : Answer S = cond t (reply 0 0 next) (reply number 0 s) in ¬ (number_of a.outcome ≡ 0) → a.session ≡ s
    by_test true e = absurd (e refl)
    by_test false e = refl

-- ---- coding calls whose answer is of this form

pub record Coding (k : Kind) : Type 0 where
  -- the number of the answer, and how many items are written if it is 0
  pub number : k.Session → k.Input → ℕ → ℕ
  pub count : k.Session → k.Input → ℕ
  pub code_is : (s : k.Session) (i : k.Input) (room : ℕ)
      → k.code s i room ≡ answered (number s i room) (count s i) (k.after s (k.items i)) s
  pub written : (s : k.Session) (i : k.Input) (out : List k.Out) → number s i (length out) ≡ 0
      → k.code_out s i out ≡ k.output s (k.items i) ++ drop (count s i) out
  pub count_is : (s : k.Session) (i : k.Input) → length (k.output s (k.items i)) ≡ count s i

module _ (k : Kind) (c : Coding k) where
  pub number_is : (s : k.Session) (i : k.Input) (room : ℕ) → (k.code s i room).number ≡ c.number s i room
  number_is s i room = ap (λ (r : Reply k.Session). r.number) (c.code_is s i room)

  pub zero_is : (s : k.Session) (i : k.Input) (room : ℕ) → (k.code s i room).number ≡ 0 → c.number s i room ≡ 0
  zero_is s i room e = sym (number_is s i room) ∙ e

  pub code_after : (s : k.Session) (i : k.Input) (room : ℕ) → (k.code s i room).number ≡ 0
      → (k.code s i room).session ≡ k.after s (k.items i)
  code_after s i room e = rw (c.code_is s i room, zero_is s i room e)

  pub code_gives : (s : k.Session) (i : k.Input) (out : List k.Out) → (k.code s i (length out)).number ≡ 0
      → given_by k s i out ≡ k.output s (k.items i)
  code_gives s i out e =
      let z = zero_is s i (length out) e in
      rw (c.code_is s i (length out), z, c.written s i out z) (take_at (k.output s (k.items i)) _ (c.count s i) (c.count_is s i))

  refused : (s : k.Session) (i : k.Input) (room : ℕ) → ¬ ((k.code s i room).number ≡ 0) → eqb (c.number s i room) 0 ≡ false
  refused s i room e = ne_eqb (c.number s i room) 0 (λ z. e (number_is s i room ∙ z))

  pub refused_same : (s : k.Session) (i : k.Input) (room : ℕ) → ¬ ((k.code s i room).number ≡ 0) → (k.code s i room).session ≡ s
  refused_same s i room e = refused_session _ _ _ s (c.code_is s i room) e

  pub refused_gives : (s : k.Session) (i : k.Input) (out : List k.Out) → ¬ ((k.code s i (length out)).number ≡ 0)
      → given_by k s i out ≡ []
  refused_gives s i out e = rw (c.code_is s i (length out), refused s i (length out) e)

-- a coding call's tests but that of the bounds, in their order, give no 2
pub not_2 : (odd short past : Bool) → ¬ (cond odd odd_count (cond short no_room (cond past position_past_end done)) ≡ out_of_bounds)
not_2 true short past e = absurd (omega (arith, e))
not_2 false true past e = absurd (omega (arith, e))
not_2 false false true e = absurd (omega (arith, e))
not_2 false false false e = absurd (omega (arith, e))

-- a start that begin refuses is taken for 0
pub refused_start : (start : ℕ) → ¬ (number_of (outcome (begin_number start) 0) ≡ 0) → start_begun start ≡ start_begun 0
unfolding begin_number start_begun
refused_start zero e = refl
refused_start (suc zero) e = absurd (e refl)
refused_start (suc (suc n)) e = rw (lt-ltb 1 (suc (suc n)) (omega arith))
