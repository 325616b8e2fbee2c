-- What a decoder's calls answer, and what decoding leaves in the output (docs/RULES.md, "Answers", "Samples as bytes").
use Rattle.std.specs.Prelude.{ℕ, ◌+◌, ◌*◌, ◌/◌, cond, not, List, ℤ, length, ltb}
use Rattle.answers.specs.Numbers.{done, out_of_bounds, no_room, position_past_end}
use Rattle.answers.specs.declared.Answer.{Answer}
use Rattle.answers.specs.Lent.{leaves}
use Rattle.samples.specs.Bytes.{bytes}
use Rattle.runs.specs.Rates.{decode_room}
use Rattle.runs.specs.Runs.{kept_at, filters_after_bytes, pairs_of_bytes}
use Rattle.g722.specs.Session.{Decoder, position_most, decoder_moves, moved, in_bounds, answered}

-- the session after bytes that it takes, and the samples that they give
unfoldable pub decoder_after : Decoder → List ℕ → Decoder
decoder_after s bs = moved s (decoder_moves s.rate (length bs)) (filters_after_bytes s.filters bs)

unfoldable pub decoded_samples : Decoder → List ℕ → List ℤ
decoded_samples s bs = kept_at s.rate (pairs_of_bytes s.filters bs)

-- the number, for n bytes and room samples of output
unfoldable pub decode_number : Decoder → ℕ → ℕ → ℕ
decode_number s n room =
    cond (not (in_bounds s)) out_of_bounds
    (cond (ltb room (decode_room s.rate n)) no_room
    (cond (ltb position_most (s.position + decoder_moves s.rate n)) position_past_end
    done))

unfoldable pub decode_answer : Decoder → List ℕ → ℕ → Answer Decoder
decode_answer s bs room = answered (decode_number s (length bs) room) (decode_room s.rate (length bs)) (decoder_after s bs) s

unfoldable pub decode_out : Decoder → List ℕ → List ℤ → List ℤ
decode_out s bs out = leaves (decode_number s (length bs) (length out)) (decoded_samples s bs) out

-- ---- samples as bytes: room and count are those of bytes, and a last odd byte of room holds no sample

unfoldable pub decode_to_bytes_answer : Decoder → List ℕ → ℕ → Answer Decoder
decode_to_bytes_answer s bs room =
    answered (decode_number s (length bs) (room / 2)) (2 * decode_room s.rate (length bs)) (decoder_after s bs) s

unfoldable pub decode_to_bytes_out : Decoder → List ℕ → List ℕ → List ℕ
decode_to_bytes_out s bs out = leaves (decode_number s (length bs) (length out / 2)) (bytes (decoded_samples s bs)) out
