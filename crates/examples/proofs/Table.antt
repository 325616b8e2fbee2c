-- The table of worked examples (docs/RULES.md, "Examples"), each computed on the definitions that the contracts cite. A row is what a call is given, and what it
-- then answers and leaves. The buffer lent holds 7s, which no example gives, and where the call is done it is an item longer than what is written.
-- negsuc n is -(n + 1).
use mathlib.Core.List.{List, [], ◌∷◌, zip_with}
use mathlib.Core.Path.{◌≡◌, refl}
use Prim.Native.Nat.{ℕ}
use lib.IntN.{ℤ, pos, negsuc}
use lib.ListN.{replicate}
use Rattle.std.specs.Prelude.{Result}
use Rattle.answers.specs.declared.Refusal.{Refusal}
use Rattle.answers.specs.Numbers.{done, odd_count, no_room}
use Rattle.answers.specs.Outcomes.{outcome, number_of, count_of}
use Rattle.answers.specs.Lent.{map_outcome, map_output}
use Rattle.fixed.specs.Number.{clamp_z}
use Rattle.band.specs.Adapt.{SCALEL, SCALEH, low_update, high_update}
use Rattle.band.specs.Bounds.{all_between, band_in_bounds, filters_in_bounds}
use Rattle.band.specs.Fresh.{fresh_band, fresh_filters}
use Rattle.band.specs.Quantise.{code_at, first, size, place_high}
use Rattle.step.specs.Step.{decode_step, encode_step}
use Rattle.pcmu.specs.Mulaw.{mu_byte}
use Rattle.pcma.specs.Alaw.{a_byte, a_code, a_size, a_value, ends, masked, signed}
use Rattle.runs.specs.Rates.{decode_room, encode_room, odd_at}
use Rattle.g722.specs.Session.{Encoder, Decoder, begun, decoder_moves, encoder_moves, begin_number, fresh_at, session_in_bounds, start_begun}
use Rattle.runs.specs.Runs.{bytes_of_pairs, doubled, filters_after_bytes, filters_after_pairs, kept_at, kept_of, paired, pairs_at, pairs_of_bytes}
use Rattle.g722.specs.Encoding.{encode_answer, encode_number, encode_out, encoded_bytes, encoder_after}
use Rattle.g722.specs.Decoding.{decode_answer, decode_number, decode_out, decoded_samples, decoder_after}

-- ---- the laws: the answer, and the output

abbrev coded : {A B : Type 0} → (A → B) → List A → List B → Result ℕ Refusal × List B
coded f input out = (map_outcome input out, map_output f input out)

pub mu_law : coded mu_byte (pos 0 ∷ negsuc 3 ∷ negsuc 32767 ∷ []) (replicate 4 7) ≡ (outcome done 3, 0xFF ∷ 0x7E ∷ 0x00 ∷ 7 ∷ [])
unfolding mu_byte
mu_law = refl

pub a_law : coded a_byte (pos 0 ∷ negsuc 32767 ∷ []) (replicate 3 7) ≡ (outcome done 2, 0xD5 ∷ 0x2A ∷ 7 ∷ [])
unfolding a_byte masked a_code ends
a_law = refl

pub a_law_value : coded a_value (0xD5 ∷ []) (replicate 2 (pos 7)) ≡ (outcome done 1, pos 8 ∷ pos 7 ∷ [])
unfolding a_value signed a_size
a_law_value = refl

-- ---- G.722: number, count and position, and the output, of a fresh session's first call

-- by rate, start, samples and room
abbrev encoded : ℕ → ℕ → List ℤ → ℕ → (ℕ × ℕ × ℕ) × List ℕ
encoded rate start samples room =
    let s : Encoder = (begun rate start).session in
    let a = encode_answer s samples room in
    ((number_of a.outcome, count_of a.outcome, a.session.position), encode_out s samples (replicate room 7))

-- after 0 0, from the zero start at 16000: low nb, det, a1, a2; high nb, det
abbrev numbers_after00 : List ℤ
numbers_after00 =
    let f = (encode_answer (begun 16000 0).session (pos 0 ∷ pos 0 ∷ []) 2).session.filters in
    f.low.nb ∷ f.low.det ∷ f.low.a1 ∷ f.low.a2 ∷ f.high.nb ∷ f.high.det ∷ []

pub encodings :
    (encoded 16000 0 (pos 0 ∷ pos 0 ∷ []) 2 ≡ ((done, 1, 2), 0xA0 ∷ 7 ∷ []))
    × (numbers_after00 ≡ pos 3042 ∷ pos 88 ∷ pos 192 ∷ pos 128 ∷ pos 798 ∷ pos 8 ∷ [])
    × (encoded 16000 0 (replicate 6 (pos 0)) 4 ≡ ((done, 3, 6), 0xA0 ∷ 0xFC ∷ 0xFC ∷ 7 ∷ []))
    × (encoded 16000 0 (negsuc 0 ∷ negsuc 0 ∷ []) 2 ≡ ((done, 1, 2), 0x20 ∷ 7 ∷ []))
    × (encoded 16000 0 (pos 0 ∷ negsuc 0 ∷ []) 2 ≡ ((done, 1, 2), 0x04 ∷ 7 ∷ []))
    × (encoded 16000 1 (pos 0 ∷ pos 0 ∷ []) 2 ≡ ((done, 1, 2), 0xFA ∷ 7 ∷ []))
    × (encoded 8000 0 (replicate 3 (pos 0)) 4 ≡ ((done, 3, 3), 0xA0 ∷ 0xFC ∷ 0xFC ∷ 7 ∷ []))
    × (encoded 16000 0 (replicate 3 (pos 0)) 4 ≡ ((odd_count, 0, 0), 7 ∷ 7 ∷ 7 ∷ 7 ∷ []))
    × (encoded 16000 0 (replicate 6 (pos 0)) 2 ≡ ((no_room, 0, 0), 7 ∷ 7 ∷ []))
unfolding encode_answer encode_out encode_number encoded_bytes encoder_after begun begin_number start_begun fresh_at fresh_filters fresh_band session_in_bounds filters_in_bounds band_in_bounds all_between encode_room encoder_moves odd_at pairs_at doubled paired bytes_of_pairs filters_after_pairs encode_step low_update high_update size first code_at place_high clamp_z zip_with
encodings = (refl, refl, refl, refl, refl, refl, refl, refl, refl)

-- by rate, start, bytes and room
abbrev decoded : ℕ → ℕ → List ℕ → ℕ → (ℕ × ℕ × ℕ) × List ℤ
decoded rate start bytes room =
    let s : Decoder = (begun rate start).session in
    let a = decode_answer s bytes room in
    ((number_of a.outcome, count_of a.outcome, a.session.position), decode_out s bytes (replicate room (pos 7)))

pub decodings :
    (decoded 16000 0 (0xA0 ∷ 0xFC ∷ []) 5 ≡ ((done, 4, 4), pos 0 ∷ pos 0 ∷ pos 0 ∷ negsuc 0 ∷ pos 7 ∷ []))
    × (decoded 8000 0 (0xA0 ∷ 0xFC ∷ []) 3 ≡ ((done, 2, 2), pos 0 ∷ pos 0 ∷ pos 7 ∷ []))
    × (decoded 16000 1 (0xFA ∷ []) 3 ≡ ((done, 2, 2), pos 0 ∷ negsuc 0 ∷ pos 7 ∷ []))
unfolding decode_answer decode_out decode_number decoded_samples decoder_after begun begin_number start_begun fresh_at fresh_filters fresh_band session_in_bounds filters_in_bounds band_in_bounds all_between decode_room decoder_moves kept_at kept_of pairs_of_bytes filters_after_bytes decode_step low_update high_update size first code_at place_high clamp_z zip_with
decodings = (refl, refl, refl)

-- det of the least nb and of the greatest
pub det_of_nb : SCALEL (pos 0) ∷ SCALEH (pos 0) ∷ SCALEL (pos 18432) ∷ SCALEH (pos 22528) ∷ [] ≡ pos 32 ∷ pos 8 ∷ pos 16384 ∷ pos 16384 ∷ []
det_of_nb = refl
