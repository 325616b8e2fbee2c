-- What listing a piece of a recording answers and leaves, how much of it fits, and the listing of a whole recording
-- (docs/RULES.md, "Listing").
use Rattle.std.specs.Prelude.{◌≡◌, true, List, [], ◌∷◌, ◌++◌, ℕ, ◌+◌, ◌-◌, ◌*◌, ◌/◌, ◌≤◌, min, length}
use Rattle.answers.specs.Lent.{leaves}
use Rattle.answers.specs.declared.Answer.{Answer}
use Rattle.g722.specs.Session.{Decoder, answered, position_most, begun, in_bounds}
use Rattle.g722.specs.Decoding.{decoder_after, decoded_samples, decode_number}
use Rattle.rows.specs.Text.{rows_text, listing_text, row_most}

-- how many rows one call can write into so many bytes
abbrev pub rows_for : ℕ → ℕ
rows_for room = min 2048 (room / row_most)

-- the rows of the samples that the bytes give, the first with the index `first`
unfoldable pub rows_of : ℕ → Decoder → List ℕ → List ℕ
rows_of first s bs = rows_text first (decoded_samples s bs)

-- the rows of one piece after another
unfoldable pub rows_of_pieces : ℕ → Decoder → List (List ℕ) → List ℕ
rows_of_pieces first s [] = []
rows_of_pieces first s (p ∷ ps) = rows_of first s p ++ rows_of_pieces (first + length (decoded_samples s p)) (decoder_after s p) ps

-- as decoding answers where there is room for so many samples
abbrev pub list_number : Decoder → ℕ → ℕ → ℕ
list_number s n room = decode_number s n (rows_for room)

unfoldable pub list_answer : ℕ → Decoder → List ℕ → ℕ → Answer Decoder
list_answer first s bs room = answered (list_number s (length bs) room) (length (rows_of first s bs)) (decoder_after s bs) s

unfoldable pub list_out : ℕ → Decoder → List ℕ → List ℕ → List ℕ
list_out first s bs out = leaves (list_number s (length bs) (length out)) (rows_of first s bs) out

-- how many of so many bytes a decoder at 16000 can still take
unfoldable pub fitting_bytes : ℕ → ℕ → ℕ
fitting_bytes position count = min count ((position_most - position) / 2)

-- a session at 16000 that can take so many bytes more
pub record Ready (s : Decoder) (n : ℕ) : Type 0 where
  pub rate : s.rate ≡ 16000
  pub inside : in_bounds s ≡ true
  pub fits : s.position + 2 * n ≤ position_most

-- a whole recording, decoded from the zero start at 16000
abbrev pub zero_start : Decoder
zero_start = (begun 16000 0).session

abbrev pub listing : List ℕ → List ℕ
listing bs = listing_text (decoded_samples zero_start bs)
