-- A call on a ++ b is one on a and then one on b: the count, the session and the output.
use Prim.Native.Nat.{ℕ, ◌+◌}
use mathlib.Core.Bool.{false}
use mathlib.Core.Path.{◌≡◌, ap, ◌∙◌}
use mathlib.Core.List.{List, ◌++◌}
use lib.IntN.{ℤ}
use lib.ListN.{length, length-append}
use Rattle.runs.specs.Rates.{encode_room, decode_room, odd_at}
use Rattle.runs.proofs.RateLaws.{encode_room_cut, decode_room_cut}
use Rattle.runs.proofs.Cut.{filters_encoded_cut, bytes_encoded_cut, bytes_encoded_length}
use Rattle.runs.proofs.Cut.{filters_after_bytes_cut, kept_decoded_cut, kept_decoded_length}
use Rattle.g722.specs.Session.{Encoder, Decoder, encoder_moves, decoder_moves, session_at}
use Rattle.g722.specs.Encoding.{encoder_after, encoded_bytes}
use Rattle.g722.specs.Decoding.{decoder_after, decoded_samples}
use Rattle.g722.proofs.MovedOn.{encoder_moves_cut, decoder_moves_cut, on}

-- ---- encoders; at rates other than 8000 the first part ends with a pair

module _ (s : Encoder) (a b : List ℤ) (even : odd_at s.rate (length a) ≡ false) where
  pub encode_count_cut : encode_room s.rate (length (a ++ b)) ≡ encode_room s.rate (length a) + encode_room s.rate (length b)
  encode_count_cut = ap (encode_room s.rate) (length-append a b) ∙ encode_room_cut s.rate (length a) (length b) even

  pub encode_moves_cut : encoder_moves s.rate (length (a ++ b)) ≡ encoder_moves s.rate (length a) + encoder_moves s.rate (length b)
  encode_moves_cut = ap (encoder_moves s.rate) (length-append a b) ∙ encoder_moves_cut s.rate (length a) (length b) even

  pub encoder_cut : encoder_after s (a ++ b) ≡ encoder_after (encoder_after s a) b
  unfolding encoder_after
  encoder_cut =
      λ i. session_at s.rate s.start (on s.position _ _ _ encode_moves_cut i) (filters_encoded_cut s.rate s.filters a b even i)

  pub encoded_cut : encoded_bytes s (a ++ b) ≡ encoded_bytes s a ++ encoded_bytes (encoder_after s a) b
  unfolding encoder_after encoded_bytes
  encoded_cut = bytes_encoded_cut s.rate s.filters a b even

-- as many bytes as are counted
pub encoded_length : (s : Encoder) (xs : List ℤ) → length (encoded_bytes s xs) ≡ encode_room s.rate (length xs)
unfolding encoded_bytes
encoded_length s xs = bytes_encoded_length s.rate s.filters xs

-- ---- decoders

module _ (s : Decoder) (a b : List ℕ) where
  pub decode_count_cut : decode_room s.rate (length (a ++ b)) ≡ decode_room s.rate (length a) + decode_room s.rate (length b)
  decode_count_cut = ap (decode_room s.rate) (length-append a b) ∙ decode_room_cut s.rate (length a) (length b)

  pub decode_moves_cut : decoder_moves s.rate (length (a ++ b)) ≡ decoder_moves s.rate (length a) + decoder_moves s.rate (length b)
  decode_moves_cut = ap (decoder_moves s.rate) (length-append a b) ∙ decoder_moves_cut s.rate (length a) (length b)

  pub decoder_cut : decoder_after s (a ++ b) ≡ decoder_after (decoder_after s a) b
  unfolding decoder_after
  decoder_cut = λ i. session_at s.rate s.start (on s.position _ _ _ decode_moves_cut i) (filters_after_bytes_cut s.filters a b i)

  pub decoded_cut : decoded_samples s (a ++ b) ≡ decoded_samples s a ++ decoded_samples (decoder_after s a) b
  unfolding decoder_after decoded_samples
  decoded_cut = kept_decoded_cut s.rate s.filters a b

-- as many samples as are counted
pub decoded_length : (s : Decoder) (bs : List ℕ) → length (decoded_samples s bs) ≡ decode_room s.rate (length bs)
unfolding decoded_samples
decoded_length s bs = kept_decoded_length s.rate s.filters bs
