-- A call on samples as bytes is the call on those samples: number, count, session, and what is left as bytes.
use Prim.Native.Nat.{ℕ, ◌*◌, ◌/◌, ◌%◌}
use native.Mathlib.Omega.{arith}
use mathlib.Core.Bool.{and-false}
use mathlib.Core.List.{List}
use mathlib.Core.Path.{◌≡◌}
use lib.ListN.{length}
use lib.Seq.{sets}
use borrow.Author.Tests.{eq-eqb}
use Rattle.std.specs.Prelude.{Result, Ok, Err}
use Rattle.std.proofs.lemmas.Bool.Decides.{nat_tests}
use Rattle.answers.specs.Numbers.{done}
use Rattle.answers.specs.declared.Answer.{Answer}
use Rattle.answers.specs.declared.Refusal.{Refusal}
use Rattle.answers.specs.Outcomes.{outcome}
use Rattle.samples.specs.Bytes.{samples, bytes}
use Rattle.samples.proofs.Bytes.{length-samples}
use Rattle.runs.specs.Rates.{decode_room}
use Rattle.g722.specs.Session.{Encoder, Decoder, in_bounds}
use Rattle.g722.specs.Encoding.{encoder_after, encoded_bytes, encode_number, encode_answer, encode_out}
use Rattle.g722.specs.Encoding.{encode_from_bytes_number, encode_from_bytes_answer, encode_from_bytes_out}
use Rattle.g722.specs.Decoding.{decoder_after, decoded_samples, decode_number, decode_answer, decode_to_bytes_answer, decode_to_bytes_out}

module _ (s : Encoder) (input : List ℕ) (even : length input % 2 ≡ 0) where
  number_is : (room : ℕ) → encode_from_bytes_number s (length input) room ≡ encode_number s (length (samples input)) room
  unfolding encode_from_bytes_number
  number_is room = rw (eq-eqb (length input % 2) 0 even, and-false (in_bounds s), length-samples input)

  pub encode_from_bytes_is : (room : ℕ) → encode_from_bytes_answer s input room ≡ encode_answer s (samples input) room
  unfolding encode_from_bytes_answer encode_answer
  encode_from_bytes_is room = rw (number_is room, ← length-samples input)

  pub encode_from_bytes_leaves : (out : List ℕ) → encode_from_bytes_out s input out ≡ encode_out s (samples input) out
  unfolding encode_from_bytes_out encode_out
  encode_from_bytes_leaves out = rw (number_is (length out))

-- what a call that is done comes to
pub encoded_from_bytes : (s : Encoder) (input out : List ℕ) → encode_from_bytes_number s (length input) (length out) ≡ done
    → ((encode_from_bytes_answer s input (length out)).session ≡ encoder_after s (samples input))
    × (encode_from_bytes_out s input out ≡ sets out 0 (encoded_bytes s (samples input)))
unfolding encode_from_bytes_answer encode_from_bytes_out
encoded_from_bytes s input out e = (rw e, rw e)

-- the count alone is doubled
abbrev doubled : Result ℕ Refusal → Result ℕ Refusal
doubled (Ok count) = Ok (2 * count)
doubled (Err refusal) = Err refusal

abbrev pub in_bytes : Answer Decoder → Answer Decoder
in_bytes a = record { outcome = doubled a.outcome; session = a.session }

counted : (number count : ℕ) → outcome number (2 * count) ≡ doubled (outcome number count)
counted number count = grind (arith, nat_tests)

module _ (s : Decoder) (bs : List ℕ) where
  pub decode_to_bytes_is : (room : ℕ) → decode_to_bytes_answer s bs room ≡ in_bytes (decode_answer s bs (room / 2))
  unfolding decode_to_bytes_answer decode_answer
  decode_to_bytes_is room =
      let number = decode_number s (length bs) (room / 2) in
      λ i. record { outcome = counted number (decode_room s.rate (length bs)) i; session = (decode_answer s bs (room / 2)).session }

  pub decoded_to_bytes : (out : List ℕ) → decode_number s (length bs) (length out / 2) ≡ done
      → ((decode_to_bytes_answer s bs (length out)).session ≡ decoder_after s bs)
      × (decode_to_bytes_out s bs out ≡ sets out 0 (bytes (decoded_samples s bs)))
  unfolding decode_to_bytes_answer decode_to_bytes_out
  decoded_to_bytes out e = (rw e, rw e)
