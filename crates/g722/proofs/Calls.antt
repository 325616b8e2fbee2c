-- What the check is told of the calls: what a number tells, and what the session after is and what is given out.
use Prim.Native.Nat.{ℕ}
use mathlib.Core.Path.{◌≡◌, refl}
use mathlib.Core.List.{List}
use lib.IntN.{ℤ}
use lib.ListN.{length}
use Rattle.samples.proofs.Bytes.{length-samples}
use Rattle.runs.specs.Rates.{decode_room}
use Rattle.runs.specs.Runs.{pairs_at, kept_at, filters_after_pairs, bytes_of_pairs, filters_after_bytes, pairs_of_bytes}
use Rattle.g722.specs.Session.{Encoder, Decoder, encoder_moves, decoder_moves, moved}
use Rattle.g722.specs.Encoding.{encoder_after, encoded_bytes}
use Rattle.g722.specs.Decoding.{decoder_after, decoded_samples}
use Rattle.g722.proofs.Numbers.{encode_tells, from_bytes_tells, decode_tells}

pub encoder_moves_is : (rate n : ℕ) → encoder_moves rate n ≡ n
unfolding encoder_moves
encoder_moves_is rate n = refl

pub encoder_after_is : (s : Encoder) (xs : List ℤ) → encoder_after s xs ≡ moved s (length xs) (filters_after_pairs s.filters (pairs_at s.rate xs))
unfolding encoder_after encoder_moves
encoder_after_is s xs = refl

pub encoded_bytes_is : (s : Encoder) (xs : List ℤ) → encoded_bytes s xs ≡ bytes_of_pairs s.filters (pairs_at s.rate xs)
unfolding encoded_bytes
encoded_bytes_is s xs = refl

pub ruleset encode_laws = (encode_tells, from_bytes_tells, encoder_moves_is, encoder_after_is, encoded_bytes_is, length-samples)

pub decoder_moves_is : (rate n : ℕ) → decoder_moves rate n ≡ decode_room rate n
unfolding decoder_moves
decoder_moves_is rate n = refl

pub decoder_after_is : (s : Decoder) (bs : List ℕ) → decoder_after s bs ≡ moved s (decode_room s.rate (length bs)) (filters_after_bytes s.filters bs)
unfolding decoder_after decoder_moves
decoder_after_is s bs = refl

pub decoded_samples_is : (s : Decoder) (bs : List ℕ) → decoded_samples s bs ≡ kept_at s.rate (pairs_of_bytes s.filters bs)
unfolding decoded_samples
decoded_samples_is s bs = refl

pub ruleset decode_laws = (decode_tells, decoder_moves_is, decoder_after_is, decoded_samples_is)
