-- Sessions stay within the bounds: those that are begun, and those that a call answers for a session within them.
-- What is given out has its type.
use Prim.Native.Nat.{ℕ, ◌+◌, ◌≤◌, ◌<◌}
use native.Mathlib.Omega.{arith}
use mathlib.Core.Bool.{Bool, true, false, cond}
use mathlib.Core.Path.{◌≡◌, refl}
use mathlib.Core.List.{List}
use lib.IntN.{ℤ, pos}
use lib.Dec.{eqb}
use lib.ListN.{length, get_or}
use borrow.Author.Tests.{eqb-true}
use Rattle.std.proofs.lemmas.Bool.Decides.{nat_tests}
use Rattle.answers.specs.Numbers.{done}
use Rattle.band.specs.declared.Filters.{Filters}
use Rattle.band.specs.Fresh.{fresh_band, fresh_filters}
use Rattle.band.specs.Bounds.{all_between, all_words, band_in_bounds, filters_in_bounds}
use Rattle.runs.proofs.Sound.{pairs_words, kept_words, filters_after_pairs_sound, bytes_of_pairs_below, filters_after_bytes_sound, pairs_of_bytes_words}
use Rattle.g722.specs.declared.Session.{Session}
use Rattle.g722.specs.Session.{Encoder, Decoder, position_most, encoder_moves, decoder_moves, session_in_bounds, in_bounds, start_begun, fresh_at, begun, moved}
use Rattle.g722.specs.Encoding.{encoder_after, encoded_bytes, encode_number, encode_answer}
use Rattle.g722.specs.Decoding.{decoder_after, decoded_samples, decode_number, decode_answer}
use Rattle.g722.proofs.Numbers.{encode_taken, decode_taken}

module _ {K : Type 0} (s : Session K) (inside : in_bounds s ≡ true) where
  pub position_in : s.position ≤ position_most
  unfolding session_in_bounds
  position_in = grind (arith, nat_tests)

  filters_in : filters_in_bounds s.filters ≡ true
  unfolding session_in_bounds
  filters_in = grind (arith, nat_tests)

  -- further on, where the position does not pass its bound
  moved_in : (samples : ℕ) (f : Filters) → s.position + samples ≤ position_most → filters_in_bounds f ≡ true → in_bounds (moved s samples f) ≡ true
  unfolding session_in_bounds
  moved_in samples f p g = grind (arith, nat_tests)

fresh_in : (start : ℕ) → filters_in_bounds (fresh_at start) ≡ true
unfolding fresh_at filters_in_bounds band_in_bounds all_between fresh_filters fresh_band
fresh_in start = by_case (eqb start 1)
  where
    by_case : (t : Bool) → filters_in_bounds (cond t (fresh_filters (pos 32) (pos 8)) (fresh_filters (pos 0) (pos 0))) ≡ true
    by_case true = refl
    by_case false = refl

pub begun_in : (K : Type 0) (rate start : ℕ) → in_bounds (begun {K = K} rate start).session ≡ true
unfolding begun start_begun session_in_bounds
begun_in K rate start = grind (arith, nat_tests, fresh_in)

pub encoder_after_in : (s : Encoder) (xs : List ℤ) → all_words xs ≡ true → s.position + encoder_moves s.rate (length xs) ≤ position_most
    → in_bounds s ≡ true → in_bounds (encoder_after s xs) ≡ true
unfolding encoder_after
encoder_after_in s xs w p h = moved_in s h _ _ p (filters_after_pairs_sound s.filters _ (pairs_words s.rate xs w) (filters_in s h))

pub decoder_after_in : (s : Decoder) (bs : List ℕ) → s.position + decoder_moves s.rate (length bs) ≤ position_most
    → in_bounds s ≡ true → in_bounds (decoder_after s bs) ≡ true
unfolding decoder_after
decoder_after_in s bs p h = moved_in s h _ _ p (filters_after_bytes_sound s.filters bs (filters_in s h))

-- ---- what a call answers and gives out

either : {K : Type 0} (t : Bool) (after s : Session K) → (t ≡ true → in_bounds after ≡ true) → in_bounds s ≡ true → in_bounds (cond t after s) ≡ true
either true after s f h = f refl
either false after s f h = h

pub encoder_answer_in : (s : Encoder) (xs : List ℤ) (room : ℕ) → all_words xs ≡ true → in_bounds s ≡ true
    → in_bounds (encode_answer s xs room).session ≡ true
unfolding encode_answer
encoder_answer_in s xs room w h =
    either (eqb (encode_number s (length xs) room) done) _ _
    (λ e. encoder_after_in s xs w (encode_taken s (length xs) room (eqb-true _ _ e)).not_past h) h

pub decoder_answer_in : (s : Decoder) (bs : List ℕ) (room : ℕ) → in_bounds s ≡ true
    → in_bounds (decode_answer s bs room).session ≡ true
unfolding decode_answer
decoder_answer_in s bs room h =
    either (eqb (decode_number s (length bs) room) done) _ _
    (λ e. decoder_after_in s bs (decode_taken s (length bs) room (eqb-true _ _ e)).not_past h) h

pub encoded_below : (s : Encoder) (xs : List ℤ) → all_words xs ≡ true → in_bounds s ≡ true
    → (i : ℕ) → get_or (encoded_bytes s xs) i 0 < 256
unfolding encoded_bytes
encoded_below s xs w h =
    bytes_of_pairs_below s.filters _ (pairs_words s.rate xs w) (filters_in s h)

pub decoded_words : (s : Decoder) (bs : List ℕ) → in_bounds s ≡ true → all_words (decoded_samples s bs) ≡ true
unfolding decoded_samples
decoded_words s bs h = kept_words s.rate _ (pairs_of_bytes_words s.filters bs (filters_in s h))
