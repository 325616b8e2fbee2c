-- What came of a call: the number and the count that docs/RULES.md gives it, and the outcome that has them.
use Rattle.std.specs.Prelude.{cond, ℕ, eqb, Result, Ok, Err}
use Rattle.answers.specs.Numbers.{done, bad_start, out_of_bounds, odd_count, no_room, position_past_end, malformed, other_kind, number_out_of_bounds}
use Rattle.answers.specs.declared.Answer.{Answer}
use Rattle.answers.specs.declared.Refusal.{Refusal}
use Rattle.answers.specs.declared.Refusal.TheVariants.{BadStart, OutOfBounds, OddCount, NoRoom, PositionPastEnd, Malformed, OtherKind, NumberOutOfBounds}

-- the number of each refusal
abbrev pub refusal_number : Refusal → ℕ
refusal_number BadStart = bad_start
refusal_number OutOfBounds = out_of_bounds
refusal_number OddCount = odd_count
refusal_number NoRoom = no_room
refusal_number PositionPastEnd = position_past_end
refusal_number Malformed = malformed
refusal_number OtherKind = other_kind
refusal_number NumberOutOfBounds = number_out_of_bounds

abbrev pub number_of : Result ℕ Refusal → ℕ
number_of (Ok count) = done
number_of (Err refusal) = refusal_number refusal

-- a refusal wrote nothing
abbrev pub count_of : Result ℕ Refusal → ℕ
count_of (Ok count) = count
count_of (Err refusal) = 0

-- the refusal of a number from 1 to 8
abbrev pub refusal_of : ℕ → Refusal
refusal_of number =
    cond (eqb number bad_start) BadStart
    (cond (eqb number out_of_bounds) OutOfBounds
    (cond (eqb number odd_count) OddCount
    (cond (eqb number no_room) NoRoom
    (cond (eqb number position_past_end) PositionPastEnd
    (cond (eqb number malformed) Malformed
    (cond (eqb number other_kind) OtherKind
    NumberOutOfBounds))))))

-- the outcome with this number of a call that writes so many items if it is done
abbrev pub outcome : ℕ → ℕ → Result ℕ Refusal
outcome number count = cond (eqb number done) (Ok count) (Err (refusal_of number))

-- the answer with this number of a call on a session: the count where it is done, and the session handed back
abbrev pub reply : {S : Type 0} → ℕ → ℕ → S → Answer S
reply number count session = record { outcome = outcome number count; session = session }
