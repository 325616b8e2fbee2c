-- What reading a line gives: the session that it says, or why it says none.
use Rattle.std.specs.Prelude.{ℕ, cond, Option, Some, None, Result, Ok, Err, List, ℤ, length, eqb}
use Rattle.std.specs.Bool.{then_some}
use Rattle.answers.specs.Numbers.{done, malformed}
use Rattle.answers.specs.Outcomes.{refusal_of}
use Rattle.answers.specs.declared.Refusal.{Refusal}
use Rattle.g722.specs.declared.Session.{Session}
use Rattle.line.specs.Line.{read_line, line_numbers}
use Rattle.line.specs.declared.Line.{Line}
use Rattle.mark.specs.Answer.{number_count, numbers_in_bounds, text_number, session_of}

module _ {K : Type 0} where
  -- a start letter and the numbers of a line
  unfoldable pub said_by : ℕ → List ℤ → Option (Session K)
  said_by letter vs = then_some (numbers_in_bounds vs) (session_of letter vs)

  -- a text of n bytes, by what is read at its front
  abbrev pub text_said : ℕ → ℕ → List ℤ → Option Line → Result (Session K) Refusal
  text_said kind n vs (Some l) =
      let number = text_number kind n vs (Some l) in
      cond (eqb number done) (Ok (session_of l.start vs)) (Err (refusal_of number))
  text_said kind n vs None = Err (refusal_of malformed)

  unfoldable pub reading : ℕ → List ℕ → Result (Session K) Refusal
  reading kind text = text_said kind (length text) (line_numbers number_count text) (read_line number_count text)
