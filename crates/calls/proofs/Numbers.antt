-- The number of an outcome: 0 where the call is done, and the coder's where it is made of that.
use Prim.Native.Nat.{ℕ, ◌+◌, ◌/◌, ◌%◌, ◌≤◌}
use native.Mathlib.Omega.{arith}
use mathlib.Core.Bool.{not, ◌&&◌}
use mathlib.Core.Path.{◌≡◌, refl}
use lib.Dec.{eqb, ltb}
use Rattle.std.specs.Prelude.{Result, Ok, Err}
use Rattle.answers.specs.Numbers.{done}
use Rattle.answers.specs.declared.Refusal.{Refusal}
use Rattle.answers.specs.declared.Refusal.TheVariants.{BadStart, OutOfBounds, OddCount, NoRoom, PositionPastEnd, Malformed, OtherKind, NumberOutOfBounds}
use Rattle.answers.specs.Outcomes.{refusal_number, number_of, outcome}
use Rattle.answers.proofs.Answered.{number_is}
use Rattle.runs.specs.Rates.{encode_room, decode_room, odd_at}
use Rattle.g722.specs.Session.{Encoder, Decoder, in_bounds, position_most, encoder_moves, decoder_moves}
use Rattle.g722.specs.Encoding.{encode_number, encode_from_bytes_number}
use Rattle.g722.specs.Decoding.{decode_number}
use Rattle.text.proofs.Tests.{either}

refusal_not_done : (r : Refusal) → ¬ (refusal_number r ≡ done)
refusal_not_done BadStart e = omega (arith, e)
refusal_not_done OutOfBounds e = omega (arith, e)
refusal_not_done OddCount e = omega (arith, e)
refusal_not_done NoRoom e = omega (arith, e)
refusal_not_done PositionPastEnd e = omega (arith, e)
refusal_not_done Malformed e = omega (arith, e)
refusal_not_done OtherKind e = omega (arith, e)
refusal_not_done NumberOutOfBounds e = omega (arith, e)

pub not_done : (k : Result ℕ Refusal) → ((n : ℕ) → k ≡ Ok n → ⊥) → ¬ (number_of k ≡ done)
not_done (Ok n) h e = h n refl
not_done (Err r) h e = refusal_not_done r e

pub encode_coded : (s : Encoder) (n room count : ℕ)
    → number_of (outcome (encode_from_bytes_number s n room) count) ≡ encode_from_bytes_number s n room
unfolding encode_from_bytes_number encode_number
encode_coded s n room count =
    let P : ℕ → Type 0 = λ k. k ≤ 8 in
    number_is _ count
    (either P (in_bounds s && not (eqb (n % 2) 0)) (omega arith)
    (either P (not (in_bounds s)) (omega arith)
    (either P (odd_at s.rate (n / 2)) (omega arith)
    (either P (ltb room (encode_room s.rate (n / 2))) (omega arith)
    (either P (ltb position_most (s.position + encoder_moves s.rate (n / 2))) (omega arith) (omega arith))))))

pub decode_coded : (s : Decoder) (n room count : ℕ) → number_of (outcome (decode_number s n room) count) ≡ decode_number s n room
unfolding decode_number
decode_coded s n room count =
    let P : ℕ → Type 0 = λ k. k ≤ 8 in
    number_is _ count
    (either P (not (in_bounds s)) (omega arith)
    (either P (ltb room (decode_room s.rate n)) (omega arith)
    (either P (ltb position_most (s.position + decoder_moves s.rate n)) (omega arith) (omega arith))))
