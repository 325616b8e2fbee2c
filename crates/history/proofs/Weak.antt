-- Weak programs that the claim rules out: a restore that ignores its text, in either kind, and a decoder that repeats its first byte.
use Prim.Native.Nat.{ℕ}
use native.Mathlib.Omega.{arith}
use mathlib.Core.Path.{◌≡◌, refl, sym, ap, ◌∙◌}
use mathlib.Core.List.{List, [], ◌∷◌, flatten}
use lib.IntN.{ℤ, pos, negsuc, nat_abs}
use lib.ListN.{length, take, get_or, replicate}
use Rattle.runs.specs.Rates.{decode_room}
use Rattle.g722.specs.Session.{Encoder, Decoder, begun as session_begun, decoder_moves, begin_number, start_begun}
use Rattle.g722.specs.Decoding.{decoded_samples}
use Rattle.life.specs.Kind.{Kind, Reply}
use Rattle.life.specs.Life.{fresh}
use Rattle.life.specs.Unbroken.{Histories}
use Rattle.life.proofs.Weak.{deaf_restore, first_call}
use Rattle.history.specs.Encoding.{encoding}
use Rattle.history.specs.Decoding.{decoding}
use Rattle.history.proofs.Computed.{begun, of_A0, of_A0_A0, of_A0_04}

-- a kind with another coding call and another restore
module _ (k : Kind)
    (code : k.Session → k.Input → ℕ → Reply k.Session)
    (code_out : k.Session → k.Input → List k.Out → List k.Out)
    (restore : k.Session → List ℕ → Reply k.Session) where
  abbrev changed : Kind
  changed = record {
    Session = k.Session;
    Input = k.Input;
    Item = k.Item;
    Out = k.Out;
    items = k.items;
    Typed = k.Typed;
    InBounds = k.InBounds;
    number_at = k.number_at;
    begin = k.begin;
    code = code;
    code_out = code_out;
    write = k.write;
    write_out = k.write_out;
    restore = restore;
    after = k.after;
    output = k.output;
  }

abbrev restoring_by : (k : Kind) → (k.Session → List ℕ → Reply k.Session) → Kind
restoring_by k restore = changed k k.code k.code_out restore

abbrev decoding_by : (Decoder → List ℕ → ℕ → Reply Decoder) → (Decoder → List ℕ → List ℤ → List ℤ) → Kind
decoding_by code code_out = changed decoding code code_out decoding.restore

-- ---- no restore whose session does not depend on the text

pub no_deaf_decoder : (restore : Decoder → List ℕ → Reply Decoder) (back : Decoder → Decoder)
    → ((s : Decoder) (text : List ℕ) → (restore s text).session ≡ back s) → Histories (restoring_by decoding restore) → ⊥
unfolding session_begun begin_number start_begun
no_deaf_decoder restore back deaf hs =
    let k = restoring_by decoding restore in
    let same : fresh k 16000 0 ≡ fresh k 16000 1 = deaf_restore k hs back deaf 16000 0 16000 1 (omega arith, refl) (omega arith, refl) in
    let q : ◌≡◌ {A = ℕ} 0 1 = ap (λ (s : Decoder). s.start) same in
    omega arith

pub no_deaf_encoder : (restore : Encoder → List ℕ → Reply Encoder) (back : Encoder → Encoder)
    → ((s : Encoder) (text : List ℕ) → (restore s text).session ≡ back s) → Histories (restoring_by encoding restore) → ⊥
unfolding session_begun begin_number start_begun
no_deaf_encoder restore back deaf hs =
    let k = restoring_by encoding restore in
    let same : fresh k 16000 0 ≡ fresh k 16000 1 = deaf_restore k hs back deaf 16000 0 16000 1 (omega arith, refl) (omega arith, refl) in
    let q : ◌≡◌ {A = ℕ} 0 1 = ap (λ (s : Encoder). s.start) same in
    omega arith

-- ---- no decoder that repeats its first byte

-- by taking every byte for the first
abbrev pub first_again : Decoder → List ℕ → List ℤ
first_again s bs = decoded_samples s (replicate (length bs) (get_or bs 0 0))

-- by writing the samples of the first byte again and again
abbrev pub samples_again : Decoder → List ℕ → List ℤ
samples_again s bs = flatten (replicate (length bs) (decoded_samples s (take 1 bs)))

module _ (code : Decoder → List ℕ → ℕ → Reply Decoder) (code_out : Decoder → List ℕ → List ℤ → List ℤ) where
  -- a decoder that writes these samples wherever it is done
  abbrev Writes : (Decoder → List ℕ → List ℤ) → Type 0
  Writes samples = (s : Decoder) (bs : List ℕ) (out : List ℤ) → (code s bs (length out)).number ≡ 0
      → take (code s bs (length out)).count (code_out s bs out) ≡ samples s bs

  -- of A0 04 from the zero start it writes what the run gives out, 0 0 -1 0
  only_the_run : (samples : Decoder → List ℕ → List ℤ) → Writes samples → Histories (decoding_by code code_out)
      → samples begun (160 ∷ 4 ∷ []) ≡ pos 0 ∷ pos 0 ∷ negsuc 0 ∷ pos 0 ∷ []
  unfolding session_begun begin_number decode_room decoder_moves
  only_the_run samples w hs =
      let out = replicate 4 (pos 0) in
      let c = first_call (decoding_by code code_out) hs 16000 0 (omega arith, refl) (160 ∷ 4 ∷ []) out tt refl in
      sym (w begun (160 ∷ 4 ∷ []) out c.0) ∙ c.1 ∙ of_A0_04

  pub no_repeated_byte : Writes first_again → Histories (decoding_by code code_out) → ⊥
  no_repeated_byte w hs =
      let e = sym of_A0_A0 ∙ only_the_run first_again w hs in
      let q : ◌≡◌ {A = ℕ} 0 1 = ap (λ (l : List ℤ). nat_abs (get_or l 2 (pos 0))) e in
      omega arith

  pub no_repeated_samples : Writes samples_again → Histories (decoding_by code code_out) → ⊥
  unfolding flatten
  no_repeated_samples w hs =
      let e = sym (ap (λ (l : List ℤ). flatten (replicate 2 l)) of_A0) ∙ only_the_run samples_again w hs in
      let q : ◌≡◌ {A = ℕ} 0 1 = ap (λ (l : List ℤ). nat_abs (get_or l 2 (pos 0))) e in
      omega arith
