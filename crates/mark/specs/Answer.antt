-- What mark writing and restoring answer, by the parts of a session, its line and a text (docs/RULES.md, "Answers", "Mark lines").
use Rattle.std.specs.Prelude.{ℕ, Bool, cond, not, ◌&&◌, Option, Some, None, List, ◌∷◌, ℤ, pos, nat_abs, length, drop, get_or, eqb, ltb}
use Rattle.std.specs.Int.Signed.{le_z}
use Rattle.answers.specs.Numbers.{done, out_of_bounds, no_room, malformed, other_kind, number_out_of_bounds}
use Rattle.band.specs.declared.Filters.{Filters}
use Rattle.band.specs.Bounds.{filters_in_bounds}
use Rattle.g722.specs.declared.Session.{Session}
use Rattle.g722.specs.Session.{position_most, session_at}
use Rattle.line.specs.Letters.{letter_z, letter_s}
use Rattle.line.specs.Line.{line_text, read_line, line_numbers}
use Rattle.line.specs.declared.Line.{Line}
use Rattle.mark.specs.Numbers.{filters_numbers, filters_of}

abbrev pub rate_most : ℕ
rate_most = 4294967295

-- rate, position, x, the low band, the high band
abbrev pub number_count : ℕ
number_count = 72

-- Z for start 0 and S for start 1; and back
unfoldable pub letter_of : ℕ → ℕ
letter_of start = cond (eqb start 1) letter_s letter_z

unfoldable pub start_of : ℕ → ℕ
start_of letter = cond (eqb letter letter_s) 1 0

-- the line of a session: its kind is the letter E or D
unfoldable pub line_of : ℕ → ℕ → ℕ → ℕ → Filters → List ℕ
line_of kind rate start position filters = line_text kind (letter_of start) (pos rate ∷ pos position ∷ filters_numbers filters)

-- ---- writing, by whether the session is within its bounds, its line and the room

unfoldable pub write_number : Bool → List ℕ → ℕ → ℕ
write_number inside line room = cond (not inside) out_of_bounds (cond (ltb room (length line)) no_room done)

-- ---- restoring

-- the numbers of a line are within the bounds of a session; that rate and position are not below 0 the line's form says
unfoldable pub numbers_in_bounds : List ℤ → Bool
numbers_in_bounds vs =
    le_z (get_or vs 0 (pos 0)) (pos rate_most) && (le_z (get_or vs 1 (pos 0)) (pos position_most) && filters_in_bounds (filters_of (drop 2 vs)))

-- the number of a text of n bytes, by what is read at its front, and the session that it says
abbrev pub text_number : ℕ → ℕ → List ℤ → Option Line → ℕ
text_number kind n vs (Some l) =
    cond (not (eqb l.count n)) malformed
    (cond (not (eqb l.kind kind)) other_kind
    (cond (not (numbers_in_bounds vs)) number_out_of_bounds
    done))
text_number kind n vs None = malformed

unfoldable pub restore_number : Bool → ℕ → List ℕ → ℕ
restore_number inside kind text =
    cond (not inside) out_of_bounds (text_number kind (length text) (line_numbers number_count text) (read_line number_count text))

module _ {K : Type 0} where
  -- the session of a start letter and numbers
  abbrev pub session_of : ℕ → List ℤ → Session K
  session_of letter vs =
      session_at (nat_abs (get_or vs 0 (pos 0))) (start_of letter) (nat_abs (get_or vs 1 (pos 0))) (filters_of (drop 2 vs))

  abbrev pub text_session : Session K → List ℤ → Option Line → Session K
  text_session s vs (Some l) = session_of l.start vs
  text_session s vs None = s

  unfoldable pub restored_session : Session K → List ℕ → Session K
  restored_session s text = text_session s (line_numbers number_count text) (read_line number_count text)
