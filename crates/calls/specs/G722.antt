-- What the G.722 calls answer, and what they leave in the lent buffers (docs/RULES.md, "C calls"): the number first, then the rest by it.
use Rattle.std.specs.Prelude.{cond, not, List, ℕ, ◌/◌, eqb, ltb, length}
use Rattle.answers.specs.declared.Answer.{Answer}
use Rattle.answers.specs.Numbers.{done, odd_count, no_room}
use Rattle.answers.specs.Outcomes.{number_of}
use Rattle.answers.specs.Lent.{leaves, room_number}
use Rattle.samples.specs.Bytes.{samples, bytes}
use Rattle.g722.specs.declared.Session.{Session}
use Rattle.g722.specs.declared.Encoding.{Encoding}
use Rattle.g722.specs.declared.Decoding.{Decoding}
use Rattle.g722.specs.Session.{Encoder, Decoder, begun}
use Rattle.g722.specs.Encoding.{encoder_after, encoded_bytes, encode_from_bytes_number}
use Rattle.g722.specs.Decoding.{decoder_after, decoded_samples, decode_number}
use Rattle.line.specs.Letters.{letter_e, letter_d}
use Rattle.mark.specs.Marks.{session_line, restore_answer, encoder_line, decoder_line}

-- restore's refusals, then the coder's in its order; fewer than 512 bytes for the new mark are 4
unfoldable pub call_number : ℕ → ℕ → ℕ → ℕ
call_number restored coded markRoom =
    cond (not (eqb restored done)) restored
    (cond (eqb coded odd_count) odd_count
    (cond (ltb markRoom 512) no_room
    coded))

-- a start that is refused, then too little room for the line
unfoldable pub begin_call_number : ℕ → List ℕ → List ℕ → ℕ
begin_call_number begun line mark = cond (not (eqb begun done)) begun (room_number (length line) (length mark))

-- ---- of either kind of session, by its letter

-- the mark, restored into a fresh session; rate and start come from the mark
unfoldable pub restored : {K : Type 0} → ℕ → List ℕ → Answer (Session K)
restored letter mark = restore_answer letter (begun 16000 0).session mark

unfoldable pub session_begin_number : (K : Type 0) → ℕ → ℕ → ℕ → List ℕ → ℕ
session_begin_number K letter rate start mark =
    let b : Answer (Session K) = begun rate start in begin_call_number (number_of b.outcome) (session_line letter b.session) mark

unfoldable pub session_begin_mark : (K : Type 0) → ℕ → ℕ → ℕ → List ℕ → List ℕ
session_begin_mark K letter rate start mark =
    let b : Answer (Session K) = begun rate start in leaves (session_begin_number K letter rate start mark) (session_line letter b.session) mark

-- ---- encoders

abbrev pub encoder_of : List ℕ → Answer Encoder
encoder_of mark = restored letter_e mark

unfoldable pub encode_call_number : List ℕ → List ℕ → List ℕ → List ℕ → ℕ
encode_call_number mark input out newMark =
    let r = encoder_of mark in
    call_number (number_of r.outcome) (encode_from_bytes_number r.session (length input) (length out)) (length newMark)

unfoldable pub encode_call_out : List ℕ → List ℕ → List ℕ → List ℕ → List ℕ
encode_call_out mark input out newMark =
    leaves (encode_call_number mark input out newMark) (encoded_bytes (encoder_of mark).session (samples input)) out

unfoldable pub encode_call_mark : List ℕ → List ℕ → List ℕ → List ℕ → List ℕ
encode_call_mark mark input out newMark =
    leaves (encode_call_number mark input out newMark) (encoder_line (encoder_after (encoder_of mark).session (samples input))) newMark

abbrev pub encoder_begin_number : ℕ → ℕ → List ℕ → ℕ
encoder_begin_number rate start mark = session_begin_number Encoding letter_e rate start mark

abbrev pub encoder_begin_mark : ℕ → ℕ → List ℕ → List ℕ
encoder_begin_mark rate start mark = session_begin_mark Encoding letter_e rate start mark

-- ---- decoders; the room is counted in bytes, and a last odd one holds no sample

abbrev pub decoder_of : List ℕ → Answer Decoder
decoder_of mark = restored letter_d mark

unfoldable pub decode_call_number : List ℕ → List ℕ → List ℕ → List ℕ → ℕ
decode_call_number mark input out newMark =
    let r = decoder_of mark in
    call_number (number_of r.outcome) (decode_number r.session (length input) (length out / 2)) (length newMark)

unfoldable pub decode_call_out : List ℕ → List ℕ → List ℕ → List ℕ → List ℕ
decode_call_out mark input out newMark =
    leaves (decode_call_number mark input out newMark) (bytes (decoded_samples (decoder_of mark).session input)) out

unfoldable pub decode_call_mark : List ℕ → List ℕ → List ℕ → List ℕ → List ℕ
decode_call_mark mark input out newMark =
    leaves (decode_call_number mark input out newMark) (decoder_line (decoder_after (decoder_of mark).session input)) newMark

abbrev pub decoder_begin_number : ℕ → ℕ → List ℕ → ℕ
decoder_begin_number rate start mark = session_begin_number Decoding letter_d rate start mark

abbrev pub decoder_begin_mark : ℕ → ℕ → List ℕ → List ℕ
decoder_begin_mark rate start mark = session_begin_mark Decoding letter_d rate start mark
