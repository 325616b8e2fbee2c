-- When a call is done, and what it then answers and leaves.
use Prim.Native.Nat.{ℕ, ◌+◌, ◌/◌, ◌%◌, ◌≤◌}
use native.Mathlib.Omega.{arith}
use mathlib.Core.Bool.{Bool, true, false}
use mathlib.Core.Logic.{◌⊎◌}
use mathlib.Core.Path.{◌≡◌, refl}
use mathlib.Core.List.{List}
use lib.IntN.{ℤ}
use lib.ListN.{length}
use lib.Seq.{sets}
use lib.Dec.{eqb}
use borrow.Author.Tests.{eqb-true}
use Rattle.std.proofs.Common.{inl, inr}
use Rattle.std.proofs.lemmas.Bool.Decides.{nat_tests}
use Rattle.answers.specs.Numbers.{done}
use Rattle.answers.specs.Outcomes.{reply}
use Rattle.runs.specs.Rates.{encode_room, decode_room, odd_at}
use Rattle.g722.specs.Session.{Encoder, Decoder, position_most, encoder_moves, decoder_moves, in_bounds}
use Rattle.g722.specs.Encoding.{encoder_after, encoded_bytes, encode_number, encode_answer, encode_out, encode_from_bytes_number}
use Rattle.g722.specs.Decoding.{decoder_after, decoded_samples, decode_number, decode_answer, decode_out}

-- whether a call with this number is done, and what is known where it is
abbrev Tells : ℕ → Type 0 → Type 0
Tells number P = ((eqb number done ≡ true) × P) ⊎ (eqb number done ≡ false)

tells : {P : Type 0} (number : ℕ) → (number ≡ done → P) → Tells number P
tells {P} number known = by_case (eqb number done) refl
  where
    by_case : (t : Bool) → eqb number done ≡ t → ((t ≡ true) × P) ⊎ (t ≡ false)
    by_case true e = inl (refl, known (eqb-true number done e))
    by_case false e = inr refl

pub record EncodeTaken (s : Encoder) (n room : ℕ) : Type 0 where
  pub inside : in_bounds s ≡ true
  pub even : odd_at s.rate n ≡ false
  pub roomy : encode_room s.rate n ≤ room
  pub not_past : s.position + encoder_moves s.rate n ≤ position_most

module _ (s : Encoder) (n room : ℕ) where
  pub encode_taken : encode_number s n room ≡ done → EncodeTaken s n room
  unfolding encode_number
  encode_taken e = record {
    inside = grind (arith, nat_tests);
    even = grind (arith, nat_tests);
    roomy = grind (arith, nat_tests);
    not_past = grind (arith, nat_tests);
  }

  pub taken_encodes : EncodeTaken s n room → encode_number s n room ≡ done
  unfolding encode_number
  taken_encodes t = grind (arith, nat_tests)

  pub encode_tells : Tells (encode_number s n room) (EncodeTaken s n room)
  encode_tells = tells _ encode_taken

module _ (s : Encoder) (n room : ℕ) where
  pub from_bytes_taken : encode_from_bytes_number s n room ≡ done → (n % 2 ≡ 0) × EncodeTaken s (n / 2) room
  unfolding encode_from_bytes_number
  from_bytes_taken e =
      let t = encode_taken s (n / 2) room (grind (arith, nat_tests)) in
      (grind (arith, nat_tests), t)

  pub from_bytes_tells : Tells (encode_from_bytes_number s n room) ((n % 2 ≡ 0) × EncodeTaken s (n / 2) room)
  from_bytes_tells = tells _ from_bytes_taken

pub encode_done : (s : Encoder) (xs : List ℤ) (out : List ℕ) → encode_number s (length xs) (length out) ≡ done
    → (reply done (encode_room s.rate (length xs)) (encoder_after s xs) ≡ encode_answer s xs (length out))
    × (sets out 0 (encoded_bytes s xs) ≡ encode_out s xs out)
unfolding encode_answer encode_out
encode_done s xs out e = (rw e, rw e)

pub record DecodeTaken (s : Decoder) (n room : ℕ) : Type 0 where
  pub inside : in_bounds s ≡ true
  pub roomy : decode_room s.rate n ≤ room
  pub not_past : s.position + decoder_moves s.rate n ≤ position_most

module _ (s : Decoder) (n room : ℕ) where
  pub decode_taken : decode_number s n room ≡ done → DecodeTaken s n room
  unfolding decode_number
  decode_taken e = record { inside = grind (arith, nat_tests); roomy = grind (arith, nat_tests); not_past = grind (arith, nat_tests) }

  pub taken_decodes : DecodeTaken s n room → decode_number s n room ≡ done
  unfolding decode_number
  taken_decodes t = grind (arith, nat_tests)

  pub decode_tells : Tells (decode_number s n room) (DecodeTaken s n room)
  decode_tells = tells _ decode_taken

pub decode_done : (s : Decoder) (bs : List ℕ) (out : List ℤ) → decode_number s (length bs) (length out) ≡ done
    → (reply done (decode_room s.rate (length bs)) (decoder_after s bs) ≡ decode_answer s bs (length out))
    × (sets out 0 (decoded_samples s bs) ≡ decode_out s bs out)
unfolding decode_answer decode_out
decode_done s bs out e = (rw e, rw e)
