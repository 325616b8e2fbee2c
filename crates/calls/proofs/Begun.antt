-- What beginning answers and leaves in the lent buffer, of either kind.
use mathlib.Core.List.{List}
use native.Mathlib.Omega.{arith}
use mathlib.Core.Path.{◌≡◌, ◌∙◌}
use Prim.Native.Nat.{ℕ, ◌^◌, ◌≤◌, ◌<◌}
use lib.Dec.{ltb}
use lib.ListN.{length}
use borrow.Author.Tests.{lt-ltb, le-ltb}
use Rattle.std.specs.Prelude.{Result, Ok, Err}
use Rattle.std.specs.Result.{OkIff, IsErrAnd, result_or}
use Rattle.answers.specs.declared.Answer.{Answer}
use Rattle.answers.specs.declared.Refusal.{Refusal}
use Rattle.answers.specs.declared.Refusal.TheVariants.{BadStart}
use Rattle.answers.specs.Outcomes.{number_of, outcome}
use Rattle.answers.specs.Lent.{room_number}
use Rattle.answers.proofs.Answered.{number_is}
use Rattle.g722.specs.declared.Session.{Session}
use Rattle.g722.specs.Session.{begun, begin_number}
use Rattle.g722.proofs.Sound.{begun_in}
use Rattle.text.proofs.Tests.{Below, small, large, below, either}
use Rattle.mark.specs.Answer.{write_number}
use Rattle.mark.specs.Marks.{write_answer, write_out}
use Rattle.calls.specs.G722.{begin_call_number, session_begin_number, session_begin_mark}

room_is : (n room : ℕ) → number_of (outcome (room_number n room) n) ≡ room_number n room
room_is n room = number_is _ n (either (λ k. k ≤ 8) (ltb room n) (omega arith) (omega arith))

-- ---- a start of 32 bits as a byte

no_byte : {E : Type 0} {e : Refusal} (start : ℕ) (tried : Result ℕ E) → OkIff tried (start < 2 ^ 8) start → Err e ≡ result_or tried (Err BadStart)
    → (e ≡ BadStart) × (1 < start)
no_byte {e = e} start (Ok x) is q = cc
no_byte {e = e} start (Err x) is q = let same : e ≡ BadStart = cc in (same, omega (arith, is))

byte_is : {E : Type 0} {n : ℕ} (start : ℕ) (tried : Result ℕ E) → OkIff tried (start < 2 ^ 8) start → Ok n ≡ result_or tried (Err BadStart) → n ≡ start
byte_is {n = n} start (Ok x) is q = let same : n ≡ x = cc in same ∙ is.1
byte_is {n = n} start (Err x) is q = cc

-- ---- what a session's begin answers of it

module _ {K : Type 0} (rate start : ℕ) {b : Answer (Session K)} (is : b ≡ begun rate start) where
  begun_err : {e : Refusal} → b.outcome ≡ Err e → (e ≡ BadStart) × (1 < start)
  unfolding begun begin_number
  begun_err {e = e} q = by_case (below 1 start)
    where
      by_case : Below 1 start → (e ≡ BadStart) × (1 < start)
      by_case (small h) = let made : ◌≡◌ {A = Result ℕ Refusal} (Err BadStart) (Err e) = rw (is, lt-ltb 1 start h) at q in let same : e ≡ BadStart = cc in (same, h)
      by_case (large h) = let made : ◌≡◌ {A = Result ℕ Refusal} (Ok 0) (Err e) = rw (is, le-ltb 1 start h) at q in cc

  begun_ok : {n : ℕ} → b.outcome ≡ Ok n → start ≤ 1
  unfolding begun begin_number
  begun_ok {n = n} q = by_case (below 1 start)
    where
      by_case : Below 1 start → start ≤ 1
      by_case (small h) = let made : ◌≡◌ {A = Result ℕ Refusal} (Err BadStart) (Ok n) = rw (is, lt-ltb 1 start h) at q in cc
      by_case (large h) = h

-- ---- the call

module _ (K : Type 0) (letter rate start : ℕ) (mark : List ℕ) where
  refused : (r : Result ℕ Refusal) → 1 < start → IsErrAnd r (λ e. e ≡ BadStart)
      → (number_of r ≡ session_begin_number K letter rate start mark) × (mark ≡ session_begin_mark K letter rate start mark)
  unfolding session_begin_number session_begin_mark begin_call_number begun begin_number
  refused (Ok n) h is = absurd is
  refused (Err e) h is =
      let t = lt-ltb 1 start h in
      (rw (is, t), rw t)

  -- of a start that was tried as a byte
  module _ {E : Type 0} (tried : Result ℕ E) (is : OkIff tried (start < 2 ^ 8) start) where
    pub begin_no_byte : {e : Refusal} (r : Result ℕ Refusal) → Err e ≡ result_or tried (Err BadStart) → IsErrAnd r (λ x. x ≡ e)
        → (number_of r ≡ session_begin_number K letter rate start mark) × (mark ≡ session_begin_mark K letter rate start mark)
    begin_no_byte r q same = let n = no_byte start tried is q in refused r n.1 (rw n.0 at same)

    module _ {n : ℕ} (byte : Ok n ≡ result_or tried (Err BadStart)) {b : Answer (Session K)} (begun_is : b ≡ begun rate n) where
      pub begin_refused : {e : Refusal} (r : Result ℕ Refusal) → b.outcome ≡ Err e → IsErrAnd r (λ x. x ≡ e)
          → (number_of r ≡ session_begin_number K letter rate start mark) × (mark ≡ session_begin_mark K letter rate start mark)
      begin_refused r o same =
          let n = begun_err rate start (rw (byte_is start tried is byte) at begun_is) o in
          refused r n.1 (rw n.0 at same)

      pub begin_done : {k : ℕ} {w : Answer (Session K)} {left : List ℕ} → b.outcome ≡ Ok k
          → w ≡ write_answer letter b.session (length mark) → left ≡ write_out letter b.session mark
          → (number_of w.outcome ≡ session_begin_number K letter rate start mark) × (left ≡ session_begin_mark K letter rate start mark)
      unfolding session_begin_number session_begin_mark begin_call_number begun begin_number write_answer write_out write_number
      begin_done o answered written =
          let made = rw (byte_is start tried is byte) at begun_is in
          let e = begun_in K rate start in
          let n = le-ltb 1 start (begun_ok rate start made o) in
          (rw (answered, made, e, n) (room_is _ (length mark)), rw (written, made, e, n))
