-- What restoring answers, whatever the text: 6 exactly where it is not well-formed; and a session within its bounds or the one given.
use mathlib.Core.Path.{◌≡◌, refl}
use mathlib.Core.Bool.{true, cond, not}
use mathlib.Core.List.{List}
use mathlib.Core.Logic.{◌↔◌}
use Prim.Native.Nat.{ℕ}
use native.Mathlib.Omega.{arith}
use lib.Dec.{eqb, leb}
use lib.IntN.{ℤ, pos, negsuc, nat_abs}
use lib.ListN.{length, get_or, drop}
use lib.Signed.{le_z, non_neg}
use borrow.Author.Tests.{eqb-true, eqb-false}
use Rattle.std.specs.Prelude.{Option, Some, None}
use Rattle.answers.specs.Numbers.{done, malformed, other_kind, number_out_of_bounds}
use Rattle.band.specs.declared.Filters.{Filters}
use Rattle.band.specs.Bounds.{filters_in_bounds}
use Rattle.answers.specs.declared.Answer.{Answer}
use Rattle.answers.specs.Outcomes.{number_of, reply}
use Rattle.g722.specs.declared.Session.{Session}
use Rattle.mark.specs.Marks.{restore_answer}
use Rattle.g722.specs.Session.{session_at, in_bounds, position_most, session_in_bounds}
use Rattle.text.proofs.Tests.{Test, yes!, no!, test, both, false_is_true, either}
use Rattle.line.specs.Letters.{letter_s}
use Rattle.line.specs.Line.{plain_two, read_line, line_numbers, WellFormed}
use Rattle.line.specs.declared.Line.{Line}
use Rattle.line.proofs.LineTexts.{line_read, malformed_exactly, well_formed_exactly}
use Rattle.mark.specs.Numbers.{filters_of}
use Rattle.mark.specs.Answer.{rate_most, number_count, start_of, numbers_in_bounds, text_number, text_session}
use Rattle.mark.specs.Answer.{restore_number, restored_session}

-- ---- the numbers of a line, within their bounds

start_in : (letter : ℕ) → leb (start_of letter) 1 ≡ true
unfolding start_of
start_in letter = either (λ n. leb n 1 ≡ true) (eqb letter letter_s) refl refl

below : (v : ℤ) (top : ℕ) → non_neg v ≡ true → le_z v (pos top) ≡ true → leb (nat_abs v) top ≡ true
below (pos n) top p e = e
below (negsuc n) top p e = false_is_true p

numbers_in : (letter : ℕ) (vs : List ℤ) → plain_two vs ≡ true → numbers_in_bounds vs ≡ true
    → session_in_bounds (start_of letter) (nat_abs (get_or vs 1 (pos 0))) (filters_of (drop 2 vs)) ≡ true
unfolding session_in_bounds plain_two numbers_in_bounds
numbers_in letter vs p e =
    let position = get_or vs 1 (pos 0) in
    let tests = (both (le_z (get_or vs 0 (pos 0)) (pos rate_most)) _ e).1 in
    let two = both (le_z position (pos position_most)) (filters_in_bounds (filters_of (drop 2 vs))) tests in
    rw (start_in letter, below position position_most (both (non_neg (get_or vs 0 (pos 0))) (non_neg position) p).1 two.0, two.1)

-- ---- the answer, of any kind letter

module _ {K : Type 0} (kind : ℕ) (s : Session K) (text : List ℕ) (here : in_bounds s ≡ true) where
  abbrev Formed : Type 0
  Formed = WellFormed number_count text

  -- it is 6 and the text not well-formed; or the text is well-formed, and it is 0 with a session within its bounds, or 7, or 8
  pub restored_holds : (P : Answer (Session K) → Type 0)
      → ((rate start position : ℕ) (f : Filters) → Formed → session_in_bounds start position f ≡ true → P (reply done 0 (session_at rate start position f)))
      → ((Formed → ⊥) → P (reply malformed 0 s)) → (Formed → P (reply other_kind 0 s)) → (Formed → P (reply number_out_of_bounds 0 s))
      → P (restore_answer kind s text)
  unfolding restore_number restored_session restore_answer
  restored_holds P made six seven eight = rw here (of_line (read_line number_count text) refl)
    where
      vs : List ℤ
      vs = line_numbers number_count text

      Answered : Option Line → ℕ → Type 0
      Answered line n = P (cond (eqb n done) (reply done 0 (text_session s vs line)) (reply n 0 s))

      of_line : (line : Option Line) → read_line number_count text ≡ line → Answered line (text_number kind (length text) vs line)
      of_line None e = six (λ w. (malformed_exactly number_count text).0 e w.kind w.start w.numbers (length text) w.whole)
      of_line (Some l) e = of_length (test (eqb l.count (length text)))
        where
          Here : ℕ → Type 0
          Here = Answered (Some l)

          ends : Formed → l.count ≡ length text
          ends w = let r = ((well_formed_exactly number_count text).0 w).2 in cc

          of_numbers : Formed → Test (numbers_in_bounds vs) → Here (cond (not (numbers_in_bounds vs)) number_out_of_bounds done)
          of_numbers w (yes! i) = rw i (made _ _ _ _ w (numbers_in l.start vs (line_read number_count text l.kind l.start l.count e).plain i))
          of_numbers w (no! i) = rw i (eight w)

          of_length : Test (eqb l.count (length text)) → Here (text_number kind (length text) vs (Some l))
          of_length (no! n) = rw n (six (λ w. eqb-false l.count (length text) n (ends w)))
          of_length (yes! y) =
              let w = (well_formed_exactly number_count text).1 (l.kind, l.start, rw (eqb-true l.count (length text) y) at e) in
              rw y (either Here (not (eqb l.kind kind)) (seven w) (of_numbers w (test (numbers_in_bounds vs))))

  pub malformed_text : (number_of (restore_answer kind s text).outcome ≡ malformed) ↔ (Formed → ⊥)
  malformed_text =
      restored_holds (λ a. (number_of a.outcome ≡ malformed) ↔ (Formed → ⊥)) (λ rate start position f w i. sound 0 w (λ z. omega (arith, z)))
      (λ n. (λ z. n, λ z. refl)) (λ w. sound 7 w (λ z. omega (arith, z))) (λ w. sound 8 w (λ z. omega (arith, z)))
    where
      sound : (n : ℕ) → Formed → ¬ (n ≡ malformed) → (n ≡ malformed) ↔ (Formed → ⊥)
      sound n w h = (λ z. absurd (h z), λ f. absurd (f w))
