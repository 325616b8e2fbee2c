-- What an encoder's calls answer, and what encoding leaves in the output (docs/RULES.md, "Answers", "Samples as bytes").
use Rattle.std.specs.Prelude.{ℕ, ◌+◌, ◌/◌, ◌%◌, cond, not, ◌&&◌, List, ℤ, length, eqb, ltb}
use Rattle.answers.specs.Numbers.{done, out_of_bounds, odd_count, no_room, position_past_end}
use Rattle.answers.specs.declared.Answer.{Answer}
use Rattle.answers.specs.Lent.{leaves}
use Rattle.samples.specs.Bytes.{samples}
use Rattle.runs.specs.Rates.{encode_room, odd_at}
use Rattle.runs.specs.Runs.{pairs_at, filters_after_pairs, bytes_of_pairs}
use Rattle.g722.specs.Session.{Encoder, position_most, encoder_moves, moved, in_bounds, answered}

-- the session after samples that it takes, and the bytes that they give
unfoldable pub encoder_after : Encoder → List ℤ → Encoder
encoder_after s xs = moved s (encoder_moves s.rate (length xs)) (filters_after_pairs s.filters (pairs_at s.rate xs))

unfoldable pub encoded_bytes : Encoder → List ℤ → List ℕ
encoded_bytes s xs = bytes_of_pairs s.filters (pairs_at s.rate xs)

-- the number, for n samples and room bytes of output
unfoldable pub encode_number : Encoder → ℕ → ℕ → ℕ
encode_number s n room =
    cond (not (in_bounds s)) out_of_bounds
    (cond (odd_at s.rate n) odd_count
    (cond (ltb room (encode_room s.rate n)) no_room
    (cond (ltb position_most (s.position + encoder_moves s.rate n)) position_past_end
    done)))

unfoldable pub encode_answer : Encoder → List ℤ → ℕ → Answer Encoder
encode_answer s xs room = answered (encode_number s (length xs) room) (encode_room s.rate (length xs)) (encoder_after s xs) s

unfoldable pub encode_out : Encoder → List ℤ → List ℕ → List ℕ
encode_out s xs out = leaves (encode_number s (length xs) (length out)) (encoded_bytes s xs) out

-- ---- samples as bytes: half a sample is an odd count too

unfoldable pub encode_from_bytes_number : Encoder → ℕ → ℕ → ℕ
encode_from_bytes_number s n room = cond (in_bounds s && not (eqb (n % 2) 0)) odd_count (encode_number s (n / 2) room)

unfoldable pub encode_from_bytes_answer : Encoder → List ℕ → ℕ → Answer Encoder
encode_from_bytes_answer s input room =
    answered (encode_from_bytes_number s (length input) room) (encode_room s.rate (length input / 2)) (encoder_after s (samples input)) s

unfoldable pub encode_from_bytes_out : Encoder → List ℕ → List ℕ → List ℕ
encode_from_bytes_out s input out = leaves (encode_from_bytes_number s (length input) (length out)) (encoded_bytes s (samples input)) out
