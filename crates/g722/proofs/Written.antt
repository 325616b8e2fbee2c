-- A call that is done writes as many items as it counts, first in the output, and keeps the rest.
use Prim.Native.Nat.{ℕ, ◌+◌, ◌≤◌}
use native.Mathlib.Omega.{arith}
use mathlib.Core.Path.{◌≡◌, sym, ◌∙◌}
use mathlib.Core.List.{List, ◌++◌}
use lib.IntN.{ℤ}
use lib.ListN.{length, drop}
use lib.Seq.{sets, sets-eq}
use Rattle.answers.specs.Numbers.{done}
use Rattle.runs.specs.Rates.{encode_room, decode_room}
use Rattle.g722.specs.Session.{Encoder, Decoder}
use Rattle.g722.specs.Encoding.{encoded_bytes, encode_number, encode_out}
use Rattle.g722.specs.Decoding.{decoded_samples, decode_number, decode_out}
use Rattle.g722.proofs.Numbers.{encode_taken, encode_done, decode_taken, decode_done}
use Rattle.g722.proofs.Cut.{encoded_length, decoded_length}

pub first_items : {A : Type 0} (items out : List A) (n : ℕ) → length items ≡ n → n ≤ length out → sets out 0 items ≡ items ++ drop n out
first_items items out n e h =
    let all : 0 + length items ≡ n = omega arith in
    sets-eq items out 0 (omega arith) ∙ rw all

pub encode_written : (s : Encoder) (xs : List ℤ) (out : List ℕ) → encode_number s (length xs) (length out) ≡ done
    → encode_out s xs out ≡ encoded_bytes s xs ++ drop (encode_room s.rate (length xs)) out
encode_written s xs out e =
    let t = encode_taken s (length xs) (length out) e in
    sym (encode_done s xs out e).1 ∙ first_items (encoded_bytes s xs) out _ (encoded_length s xs) t.roomy

pub decode_written : (s : Decoder) (bs : List ℕ) (out : List ℤ) → decode_number s (length bs) (length out) ≡ done
    → decode_out s bs out ≡ decoded_samples s bs ++ drop (decode_room s.rate (length bs)) out
decode_written s bs out e =
    let t = decode_taken s (length bs) (length out) e in
    sym (decode_done s bs out e).1 ∙ first_items (decoded_samples s bs) out _ (decoded_length s bs) t.roomy
