-- The marks of sessions: the letter E or D of its lines says a session's kind. And those of encoders and of decoders.
use Rattle.std.specs.Prelude.{ℕ, cond, List, length, eqb}
use Rattle.answers.specs.Numbers.{done}
use Rattle.answers.specs.declared.Answer.{Answer}
use Rattle.answers.specs.Outcomes.{reply}
use Rattle.answers.specs.Lent.{leaves}
use Rattle.g722.specs.declared.Session.{Session}
use Rattle.g722.specs.Session.{Encoder, Decoder, in_bounds}
use Rattle.line.specs.Letters.{letter_e, letter_d}
use Rattle.mark.specs.Answer.{line_of, write_number, restore_number, restored_session}

module _ {K : Type 0} where
  abbrev pub session_line : ℕ → Session K → List ℕ
  session_line letter s = line_of letter s.rate s.start s.position s.filters

  unfoldable pub write_answer : ℕ → Session K → ℕ → Answer (Session K)
  write_answer letter s room = let line = session_line letter s in reply (write_number (in_bounds s) line room) (length line) s

  unfoldable pub write_out : ℕ → Session K → List ℕ → List ℕ
  write_out letter s out = let line = session_line letter s in leaves (write_number (in_bounds s) line (length out)) line out

  unfoldable pub restore_answer : ℕ → Session K → List ℕ → Answer (Session K)
  restore_answer letter s text =
      let number = restore_number (in_bounds s) letter text in
      cond (eqb number done) (reply done 0 (restored_session s text)) (reply number 0 s)

abbrev pub encoder_line : Encoder → List ℕ
encoder_line s = session_line letter_e s

abbrev pub encoder_write_answer : Encoder → ℕ → Answer Encoder
encoder_write_answer s room = write_answer letter_e s room

abbrev pub encoder_write_out : Encoder → List ℕ → List ℕ
encoder_write_out s out = write_out letter_e s out

abbrev pub encoder_restore_answer : Encoder → List ℕ → Answer Encoder
encoder_restore_answer s text = restore_answer letter_e s text

abbrev pub decoder_line : Decoder → List ℕ
decoder_line s = session_line letter_d s

abbrev pub decoder_write_answer : Decoder → ℕ → Answer Decoder
decoder_write_answer s room = write_answer letter_d s room

abbrev pub decoder_write_out : Decoder → List ℕ → List ℕ
decoder_write_out s out = write_out letter_d s out

abbrev pub decoder_restore_answer : Decoder → List ℕ → Answer Decoder
decoder_restore_answer s text = restore_answer letter_d s text
