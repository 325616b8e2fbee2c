-- What a session's history says of it in plain terms: its rate, its start, its position, and when a call is accepted.
use Prim.Native.Nat.{ℕ, zero, suc, ◌+◌, ◌≤◌}
use native.Mathlib.Omega.{arith}
use mathlib.Core.Path.{◌≡◌, refl, ap, ◌∙◌}
use mathlib.Core.Bool.{false}
use mathlib.Core.List.{List}
use lib.IntN.{ℤ}
use lib.ListN.{length}
use borrow.Author.Tests.{le-ltb, lt-ltb}
use Rattle.answers.specs.Numbers.{done}
use Rattle.runs.specs.Rates.{encode_room, decode_room, odd_at}
use Rattle.answers.specs.Outcomes.{number_of, outcome}
use Rattle.g722.specs.Session.{Encoder, Decoder, begun, encoder_moves, decoder_moves, position_most, begin_number, start_begun}
use Rattle.g722.specs.Encoding.{encoder_after, encode_answer}
use Rattle.g722.specs.Decoding.{decoder_after, decode_answer}
use Rattle.life.specs.Life.{Life}
use Rattle.life.proofs.Unbroken.{started}
use Rattle.history.specs.Encoding.{encoding}
use Rattle.history.specs.Decoding.{decoding}
use Rattle.history.proofs.Encoding.{encoder_stands}
use Rattle.history.proofs.Decoding.{decoder_stands}
use Rattle.history.proofs.Histories.{encoders, decoders}

start_kept : (start : ℕ) → number_of (outcome (begin_number start) 0) ≡ 0 → start_begun start ≡ start
unfolding begin_number start_begun
start_kept zero e = refl
start_kept (suc zero) e = refl
start_kept (suc (suc n)) e = absurd (let q : ◌≡◌ {A = ℕ} 1 0 = rw (lt-ltb 1 (suc (suc n)) (omega arith)) at e in omega arith)

module _ {s : Encoder} {rate start : ℕ} {h : List ℤ} (l : Life encoding s rate start h) where
  pub encoder_rate : s.rate ≡ rate
  encoder_rate = ap (λ (e : Encoder). e.rate) (encoders.unbroken l).session ∙ (encoder_stands rate start h).0

  pub encoder_start : s.start ≡ start
  unfolding encoder_after begun start_begun
  encoder_start =
      ap (λ (e : Encoder). e.start) (encoders.unbroken l).session
      ∙ started {k = encoding} (λ z. start_begun z ≡ z) (λ r z. start_kept z) refl l

  pub encoder_position : s.position ≡ encoder_moves rate (length h)
  encoder_position = ap (λ (e : Encoder). e.position) (encoders.unbroken l).session ∙ (encoder_stands rate start h).1

  pub encoder_accepts : (xs : List ℤ) (room : ℕ) → odd_at rate (length xs) ≡ false → encode_room rate (length xs) ≤ room
      → encoder_moves rate (length h) + encoder_moves rate (length xs) ≤ position_most → number_of (encode_answer s xs room).outcome ≡ done
  encoder_accepts xs room o r p = (encoders.unbroken l).answers xs room ∙ rw (o, le-ltb room _ r, le-ltb position_most _ p)

module _ {s : Decoder} {rate start : ℕ} {h : List ℕ} (l : Life decoding s rate start h) where
  pub decoder_rate : s.rate ≡ rate
  decoder_rate = ap (λ (d : Decoder). d.rate) (decoders.unbroken l).session ∙ (decoder_stands rate start h).0

  pub decoder_start : s.start ≡ start
  unfolding decoder_after begun start_begun
  decoder_start =
      ap (λ (d : Decoder). d.start) (decoders.unbroken l).session
      ∙ started {k = decoding} (λ z. start_begun z ≡ z) (λ r z. start_kept z) refl l

  pub decoder_position : s.position ≡ decoder_moves rate (length h)
  decoder_position = ap (λ (d : Decoder). d.position) (decoders.unbroken l).session ∙ (decoder_stands rate start h).1

  pub decoder_accepts : (bs : List ℕ) (room : ℕ) → decode_room rate (length bs) ≤ room
      → decoder_moves rate (length h) + decoder_moves rate (length bs) ≤ position_most → number_of (decode_answer s bs room).outcome ≡ done
  decoder_accepts bs room r p = (decoders.unbroken l).answers bs room ∙ rw (le-ltb room _ r, le-ltb position_most _ p)
