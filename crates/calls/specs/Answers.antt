-- The numbers that each C call can answer, as include/rozimaha.h lists them.
use Rattle.std.specs.Prelude.{ℕ, ◌≡◌, Bool, true, false, ◌||◌, List, [], ◌∷◌, eqb}
use Rattle.answers.specs.Numbers.{done, bad_start, odd_count, no_room, position_past_end, malformed, other_kind, number_out_of_bounds}

-- n is one of the numbers of a list
abbrev pub is_one_of : List ℕ → ℕ → Bool
is_one_of [] n = false
is_one_of (m ∷ l) n = eqb n m || is_one_of l n

abbrev pub OneOf : List ℕ → ℕ → Type 0
OneOf l n = is_one_of l n ≡ true

-- rozimaha_pcmu_encode, rozimaha_pcma_encode
abbrev pub from_bytes_answers : List ℕ
from_bytes_answers = done ∷ odd_count ∷ no_room ∷ []

-- rozimaha_pcmu_decode, rozimaha_pcma_decode
abbrev pub to_bytes_answers : List ℕ
to_bytes_answers = done ∷ no_room ∷ []

-- rozimaha_g722_begin_encoder, rozimaha_g722_begin_decoder
abbrev pub begin_answers : List ℕ
begin_answers = done ∷ bad_start ∷ no_room ∷ []

-- rozimaha_g722_encode
abbrev pub encode_answers : List ℕ
encode_answers = done ∷ odd_count ∷ no_room ∷ position_past_end ∷ malformed ∷ other_kind ∷ number_out_of_bounds ∷ []

-- rozimaha_g722_decode
abbrev pub decode_answers : List ℕ
decode_answers = done ∷ no_room ∷ position_past_end ∷ malformed ∷ other_kind ∷ number_out_of_bounds ∷ []
