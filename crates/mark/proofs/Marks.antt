-- The marks of sessions: 512 bytes hold them, the round trip, the other kind's lines, and any text at all; then of encoders and of decoders.
use Prim.Native.Nat.{ℕ, ◌≤◌}
use native.Mathlib.Omega.{arith}
use mathlib.Core.Path.{◌≡◌, refl, sym, ◌∙◌}
use mathlib.Core.Bool.{Bool, true, false, not}
use mathlib.Core.List.{List}
use mathlib.Core.Logic.{◌↔◌}
use lib.Dec.{eqb, ltb}
use lib.ListN.{length, take}
use Rattle.answers.specs.declared.Answer.{Answer}
use Rattle.answers.specs.Numbers.{done, malformed, other_kind, number_out_of_bounds}
use Rattle.answers.specs.Outcomes.{number_of, count_of, reply}
use Rattle.answers.proofs.Answered.{number_is}
use Rattle.g722.specs.declared.Session.{Session}
use Rattle.g722.specs.Session.{Encoder, Decoder, in_bounds}
use Rattle.text.proofs.Tests.{either}
use Rattle.line.specs.Letters.{letter_e, letter_d}
use Rattle.line.specs.Line.{WellFormed, kind_letter}
use Rattle.mark.specs.Answer.{rate_most, number_count, restore_number, write_number}
use Rattle.mark.specs.Marks.{session_line, write_answer, write_out, restore_answer}
use Rattle.mark.specs.Marks.{encoder_line, encoder_write_answer, encoder_write_out, encoder_restore_answer}
use Rattle.mark.specs.Marks.{decoder_line, decoder_write_answer, decoder_write_out, decoder_restore_answer}
use Rattle.mark.proofs.Short.{writes}
use Rattle.mark.proofs.Round.{other_kind_lem, round_trip}
use Rattle.mark.proofs.Restored.{restored_holds, malformed_text}

-- ---- of a kind with this letter

small : (within : Bool) (line : List ℕ) (room : ℕ) → write_number within line room ≤ 8
unfolding write_number
small within line room =
    either (λ n. n ≤ 8) (not within) (omega arith) (either (λ n. n ≤ 8) (ltb room (length line)) (omega arith) (omega arith))

module _ {K : Type 0} (letter : ℕ) (w : Session K) where
  pub wrote_number : (room : ℕ) → number_of (write_answer letter w room).outcome ≡ write_number (in_bounds w) (session_line letter w) room
  unfolding write_answer
  wrote_number room = number_is _ _ (small (in_bounds w) (session_line letter w) room)

  module _ (r : w.rate ≤ rate_most) (e : in_bounds w ≡ true) where
    pub session_writes : (room : ℕ) → 512 ≤ room → number_of (write_answer letter w room).outcome ≡ done
    session_writes room h = wrote_number room ∙ writes letter w.rate w.start w.position w.filters room r e h

    module _ (k : kind_letter letter ≡ true) where
      -- s restores the bytes that writing w's mark put at the front of out
      pub session_round_trip : (s : Session K) (out : List ℕ) → in_bounds s ≡ true → number_of (write_answer letter w (length out)).outcome ≡ done
          → restore_answer letter s (take (count_of (write_answer letter w (length out)).outcome) (write_out letter w out)) ≡ reply done 0 w
      unfolding write_answer
      session_round_trip s out h z = let n = sym (wrote_number (length out)) ∙ z in rw n (round_trip letter w s out k r e h n)

      pub session_line_refused : (own : ℕ) → eqb letter own ≡ false → restore_number true own (session_line letter w) ≡ other_kind
      session_line_refused = other_kind_lem letter w.rate w.start w.position w.filters r e k

-- s restores any text
module _ {K : Type 0} (letter : ℕ) (s : Session K) (text : List ℕ) (e : in_bounds s ≡ true) where
  -- 0 with a session within its bounds, or 6, 7 or 8 with the one given
  pub session_restored : (P : Answer (Session K) → Type 0) → ((t : Session K) → in_bounds t ≡ true → P (reply done 0 t))
      → P (reply malformed 0 s) → P (reply other_kind 0 s) → P (reply number_out_of_bounds 0 s) → P (restore_answer letter s text)
  session_restored P made six seven eight =
      restored_holds letter s text e P (λ rate start position f w i. made _ i) (λ n. six) (λ w. seven) (λ w. eight)

  pub session_restored_in : in_bounds (restore_answer letter s text).session ≡ true
  session_restored_in = session_restored (λ a. in_bounds a.session ≡ true) (λ t i. i) e e e

-- ---- encoders

module _ (w : Encoder) (r : w.rate ≤ rate_most) (e : in_bounds w ≡ true) where
  pub encoder_writes : (room : ℕ) → 512 ≤ room → number_of (encoder_write_answer w room).outcome ≡ done
  encoder_writes = session_writes letter_e w r e

  pub encoder_round_trip : (s : Encoder) (out : List ℕ) → in_bounds s ≡ true → number_of (encoder_write_answer w (length out)).outcome ≡ done
      → encoder_restore_answer s (take (count_of (encoder_write_answer w (length out)).outcome) (encoder_write_out w out)) ≡ reply done 0 w
  encoder_round_trip = session_round_trip letter_e w r e refl

  pub encoder_line_refused : restore_number true letter_d (encoder_line w) ≡ other_kind
  encoder_line_refused = session_line_refused letter_e w r e refl letter_d refl

module _ (s : Encoder) (text : List ℕ) (e : in_bounds s ≡ true) where
  pub encoder_malformed : (number_of (encoder_restore_answer s text).outcome ≡ malformed) ↔ (WellFormed number_count text → ⊥)
  encoder_malformed = malformed_text letter_e s text e

  pub encoder_restored : (P : Answer Encoder → Type 0) → ((t : Encoder) → in_bounds t ≡ true → P (reply done 0 t))
      → P (reply malformed 0 s) → P (reply other_kind 0 s) → P (reply number_out_of_bounds 0 s) → P (encoder_restore_answer s text)
  encoder_restored = session_restored letter_e s text e

  pub encoder_restored_in : in_bounds (encoder_restore_answer s text).session ≡ true
  encoder_restored_in = session_restored_in letter_e s text e

-- ---- decoders, likewise

module _ (w : Decoder) (r : w.rate ≤ rate_most) (e : in_bounds w ≡ true) where
  pub decoder_writes : (room : ℕ) → 512 ≤ room → number_of (decoder_write_answer w room).outcome ≡ done
  decoder_writes = session_writes letter_d w r e

  pub decoder_round_trip : (s : Decoder) (out : List ℕ) → in_bounds s ≡ true → number_of (decoder_write_answer w (length out)).outcome ≡ done
      → decoder_restore_answer s (take (count_of (decoder_write_answer w (length out)).outcome) (decoder_write_out w out)) ≡ reply done 0 w
  decoder_round_trip = session_round_trip letter_d w r e refl

  pub decoder_line_refused : restore_number true letter_e (decoder_line w) ≡ other_kind
  decoder_line_refused = session_line_refused letter_d w r e refl letter_e refl

module _ (s : Decoder) (text : List ℕ) (e : in_bounds s ≡ true) where
  pub decoder_malformed : (number_of (decoder_restore_answer s text).outcome ≡ malformed) ↔ (WellFormed number_count text → ⊥)
  decoder_malformed = malformed_text letter_d s text e

  pub decoder_restored : (P : Answer Decoder → Type 0) → ((t : Decoder) → in_bounds t ≡ true → P (reply done 0 t))
      → P (reply malformed 0 s) → P (reply other_kind 0 s) → P (reply number_out_of_bounds 0 s) → P (decoder_restore_answer s text)
  decoder_restored = session_restored letter_d s text e

  pub decoder_restored_in : in_bounds (decoder_restore_answer s text).session ≡ true
  decoder_restored_in = session_restored_in letter_d s text e
