-- Empty input is done wherever the session is within its bounds, at any position and room; it writes nothing and changes nothing.
use Prim.Native.Nat.{ℕ, ◌+◌}
use native.Mathlib.Omega.{arith}
use lib.IntN.{ℤ}
use lib.Dec.{eqb}
use lib.ListN.{length}
use mathlib.Core.Bool.{true}
use mathlib.Core.Path.{◌≡◌}
use mathlib.Core.List.{List, []}
use Rattle.answers.specs.Numbers.{done}
use Rattle.answers.specs.Outcomes.{reply}
use Rattle.runs.specs.Runs.{kept_at, filters_after_pairs, bytes_of_pairs, filters_after_bytes, pairs_of_bytes}
use Rattle.runs.proofs.RateLaws.{nothing, no_bytes, no_samples, not_odd}
use Rattle.runs.proofs.Pairs.{no_pairs}
use Rattle.g722.specs.Session.{Encoder, Decoder, encoder_moves, decoder_moves, in_bounds}
use Rattle.g722.specs.Encoding.{encoder_after, encoded_bytes, encode_number, encode_answer, encode_out}
use Rattle.g722.specs.Decoding.{decoder_after, decoded_samples, decode_number, decode_answer, decode_out}
use Rattle.g722.proofs.MovedOn.{encoder_stays, decoder_stays}
use Rattle.g722.proofs.Numbers.{taken_encodes, taken_decodes}
use Rattle.g722.proofs.Sound.{position_in}

pub encode_empty : (s : Encoder) (room : ℕ) → in_bounds s ≡ true → encode_answer s [] room ≡ reply done 0 s
unfolding encode_answer encoder_after filters_after_pairs
encode_empty s room h =
    let m = encoder_stays s.rate in
    let r = no_bytes s.rate in
    let p = position_in s h in
    let e = taken_encodes s 0 room (record { inside = h; even = not_odd s.rate; roomy = omega arith; not_past = omega arith }) in
    let stays : s.position + encoder_moves s.rate 0 ≡ s.position = omega arith in
    rw (e, r, stays, no_pairs s.rate)

pub encode_empty_out : (s : Encoder) (out : List ℕ) → encode_out s [] out ≡ out
unfolding encode_out encoded_bytes bytes_of_pairs
encode_empty_out s out = rw (no_pairs s.rate) (nothing (eqb (encode_number s 0 (length out)) done) out)

pub decode_empty : (s : Decoder) (room : ℕ) → in_bounds s ≡ true → decode_answer s [] room ≡ reply done 0 s
unfolding decode_answer decoder_after filters_after_bytes
decode_empty s room h =
    let m = decoder_stays s.rate in
    let r = no_samples s.rate in
    let p = position_in s h in
    let e = taken_decodes s 0 room (record { inside = h; roomy = omega arith; not_past = omega arith }) in
    let stays : s.position + decoder_moves s.rate 0 ≡ s.position = omega arith in
    rw (e, r, stays)

pub decode_empty_out : (s : Decoder) (out : List ℤ) → decode_out s [] out ≡ out
unfolding decode_out decoded_samples kept_at pairs_of_bytes
decode_empty_out s out = nothing (eqb (decode_number s 0 (length out)) done) out
