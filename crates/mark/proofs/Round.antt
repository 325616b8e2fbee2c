-- THE ROUND TRIP: the line of a session within its bounds, written at the front of a buffer and restored into any session of the same
-- kind within its bounds, gives that session back, number for number.
use Prim.Native.Nat.{ℕ, zero, suc, ◌≤◌}
use native.Mathlib.Omega.{arith}
use mathlib.Core.Path.{◌≡◌, refl, ap₂, ◌∙◌}
use mathlib.Core.Bool.{Bool, true, false, cond, not}
use mathlib.Core.List.{List, [], ◌∷◌, ◌++◌, append-nil}
use lib.IntN.{ℤ, pos}
use lib.ListN.{length, take, drop, length-append}
use lib.Seq.{take-append_seam}
use lib.Dec.{eqb, ltb}
use borrow.Author.Tests.{eq-eqb, le-leb, ltb-false}
use Rattle.std.specs.Prelude.{Some}
use Rattle.answers.specs.Numbers.{done, out_of_bounds, no_room, other_kind}
use Rattle.band.specs.declared.Filters.{Filters}
use Rattle.band.proofs.Boxes.{words_join}
use Rattle.answers.specs.Lent.{leaves}
use Rattle.answers.specs.Outcomes.{reply}
use Rattle.g722.specs.declared.Session.{Session}
use Rattle.mark.specs.Marks.{session_line, write_out, restore_answer}
use Rattle.g722.specs.Session.{session_at, in_bounds, position_most, session_in_bounds}
use Rattle.g722.proofs.Written.{first_items}
use Rattle.text.specs.Fields.{AllShort}
use Rattle.line.specs.Line.{kind_letter, start_letter, plain_two, read_line, line_numbers}
use Rattle.line.proofs.LineTexts.{read_line_lem}
use Rattle.line.proofs.Longest.{words_short}
use Rattle.mark.specs.Numbers.{band_numbers, filters_numbers}
use Rattle.mark.specs.Answer.{rate_most, number_count, letter_of, start_of, line_of, write_number}
use Rattle.mark.specs.Answer.{numbers_in_bounds, text_session, restore_number, restored_session}
use Rattle.mark.proofs.Numbers.{filters_back}
use Rattle.mark.proofs.Inside.{inside}
use Rattle.mark.proofs.Short.{words}

start_back : (start : ℕ) → start ≤ 1 → (start_letter (letter_of start) ≡ true) × (start_of (letter_of start) ≡ start)
unfolding start_of letter_of
start_back zero h = (refl, refl)
start_back (suc zero) h = (refl, refl)
start_back (suc (suc n)) h = absurd (omega arith)

module _ (kind rate start position : ℕ) (f : Filters) (rate_fits : rate ≤ rate_most) (e : session_in_bounds start position f ≡ true) where
  numbers : List ℤ
  numbers = pos rate ∷ pos position ∷ filters_numbers f

  numbers_short : AllShort numbers
  unfolding numbers filters_numbers
  numbers_short =
      let i = inside start position f e in
      let bands = words_join (band_numbers f.low) (band_numbers f.high) i.low.words i.high.words in
      let all = words (filters_numbers f) (words_join f.x _ i.x_words bands) in
      (omega arith, (omega (arith, i.position_is), words_short (filters_numbers f) all))

  numbers_many : length numbers ≡ number_count
  unfolding numbers filters_numbers
  numbers_many = simp length-append (omega (arith, (inside start position f e).x_long))

  numbers_inside : numbers_in_bounds numbers ≡ true
  unfolding numbers_in_bounds numbers
  numbers_inside =
      let i = inside start position f e in
      rw (le-leb rate rate_most rate_fits, le-leb position position_most i.position_is, filters_back f i.x_long, i.filters)

  -- what restoring the line finds
  module _ (kind-is : kind_letter kind ≡ true) where
    line_read : let line = line_of kind rate start position f in
        (read_line number_count line ≡ Some (record { kind = kind; start = letter_of start; count = length line })) × (line_numbers number_count line ≡ numbers)
    unfolding line_of numbers plain_two
    line_read =
        let letter = (start_back start (inside start position f e).start_is).0 in
        rw (numbers_many, append-nil) at (read_line_lem kind (letter_of start) numbers [] kind-is letter numbers_short refl)

    line_number : restore_number true kind (line_of kind rate start position f) ≡ done
    unfolding restore_number
    line_number =
        rw (line_read.0, line_read.1, eq-eqb (length (line_of kind rate start position f)) _ refl, eq-eqb kind kind refl, numbers_inside)

    -- the other kind's line is refused with 7
    pub other_kind_lem : (own : ℕ) → eqb kind own ≡ false → restore_number true own (line_of kind rate start position f) ≡ other_kind
    unfolding restore_number
    other_kind_lem own other = rw (line_read.0, eq-eqb (length (line_of kind rate start position f)) _ refl, other)

    line_session : {K : Type 0} (s : Session K) → restored_session s (line_of kind rate start position f) ≡ session_at rate start position f
    unfolding restored_session numbers
    line_session s =
        let i = inside start position f e in
        ap₂ (text_session s) line_read.1 line_read.0
        ∙ ap₂ (λ (z : ℕ) (g : Filters). session_at rate z position g) (start_back start i.start_is).1 (filters_back f i.x_long)

    pub line_restored : {K : Type 0} (s : Session K) → in_bounds s ≡ true
        → restore_answer kind s (line_of kind rate start position f) ≡ reply done 0 (session_at rate start position f)
    unfolding restore_answer
    line_restored s h = rw (h, line_number, line_session s)

-- ---- what writing leaves at the front of the output

room_enough : (within short : Bool) → cond (not within) out_of_bounds (cond short no_room done) ≡ done → short ≡ false
room_enough true true z = absurd (omega (arith, z))
room_enough true false z = refl
room_enough false short z = absurd (omega (arith, z))

pub written_front : (within : Bool) (line out : List ℕ) → write_number within line (length out) ≡ 0
    → leaves (write_number within line (length out)) line out ≡ line ++ drop (length line) out
unfolding write_number
written_front within line out z =
    rw z (first_items line out _ refl (ltb-false _ _ (room_enough within (ltb (length out) (length line)) z)))

pub written_line : (within : Bool) (line out : List ℕ) → write_number within line (length out) ≡ 0
    → take (length line) (leaves (write_number within line (length out)) line out) ≡ line
written_line within line out z = rw (written_front within line out z) (take-append_seam line (drop (length line) out))

pub round_trip : {K : Type 0} (kind : ℕ) (w s : Session K) (out : List ℕ) → kind_letter kind ≡ true → w.rate ≤ rate_most
    → in_bounds w ≡ true → in_bounds s ≡ true → write_number (in_bounds w) (session_line kind w) (length out) ≡ done
    → restore_answer kind s (take (length (session_line kind w)) (write_out kind w out)) ≡ reply done 0 w
unfolding write_out
round_trip kind w s out k r e h z =
    rw (written_line (in_bounds w) (session_line kind w) out z)
    (line_restored kind w.rate w.start w.position w.filters r e k s h)
