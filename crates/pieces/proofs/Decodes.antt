-- The decoder's loop over pieces of the input. Its invariant speaks of what is still to do.
use mathlib.Core.Bool.{Bool, true, false, cond}
use mathlib.Core.List.{List, ◌++◌}
use mathlib.Core.Path.{◌≡◌, refl, ap, ◌∙◌}
use Prim.Native.Nat.{ℕ, ◌+◌, ◌*◌, ◌/◌, ◌≤◌, min}
use native.Mathlib.Omega.{arith}
use lib.IntN.{ℤ}
use lib.ListN.{length, take}
use lib.Seq.{sets, length-take-le}
use Rattle.std.proofs.lemmas.List.{nil_from_length}
use Rattle.answers.proofs.Coding.{Coding, coding_none, coding_room, coding_more, coding_all}
use Rattle.samples.specs.Bytes.{bytes}
use Rattle.band.specs.declared.Filters.{Filters}
use Rattle.runs.specs.Rates.{resamples, decode_room}
use Rattle.runs.specs.Runs.{kept_at, filters_after_bytes, pairs_of_bytes}
use Rattle.runs.proofs.Cut.{filters_after_bytes_cut, kept_decoded_cut, kept_decoded_length}
use Rattle.pieces.proofs.Lists.{part_of, put_part, part_length, sets_all, sets_part, bytes_cut, length-bytes}

room_le_by : (t : Bool) (n : ℕ) → cond t n (2 * n) ≤ 2 * n
room_le_by true n = omega arith
room_le_by false n = omega arith

-- a byte gives two samples at the most
room_le : (rate n : ℕ) → decode_room rate n ≤ 2 * n
unfolding decode_room
room_le rate = room_le_by (resamples rate)

-- ---- the loop

module _ (rate : ℕ) where
  abbrev pub samples_of : Filters → List ℕ → List ℤ
  samples_of f bs = kept_at rate (pairs_of_bytes f bs)

  abbrev pub bytes_of : Filters → List ℕ → List ℕ
  bytes_of f bs = bytes (samples_of f bs)

  bytes_long : (f : Filters) (bs : List ℕ) → length (bytes_of f bs) ≡ 2 * decode_room rate (length bs)
  bytes_long f bs = length-bytes (samples_of f bs) ∙ ap (λ (k : ℕ). 2 * k) (kept_decoded_length rate f bs)

  -- `rest` is left of the input
  pub record Decodes (f₀ : Filters) (input out₀ : List ℕ) (f : Filters) (rest out : List ℕ) (o : ℕ) : Type 0 where
    pub coding : Coding filters_after_bytes bytes_of f₀ input out₀ f rest out o

  pub decodes_none : (f₀ : Filters) (input out₀ : List ℕ) → decode_room rate (length input) ≤ length out₀ / 2
      → Decodes f₀ input out₀ f₀ input out₀ 0
  decodes_none f₀ input out₀ room = record { coding = coding_none _ _ (omega (arith, bytes_long f₀ input)) }

  -- the samples of 1024 bytes have room in an array
  module _ (part rest : List ℕ) {most : ℕ} (size : length part ≡ min most (length rest)) (full : most ≡ 1024) {n : ℕ} (is : n ≡ decode_room rate (length part)) where
    pub fits : n ≤ 2048
    fits = omega (arith, is, full, room_le rate (length part))

    pub front_long : (piece : List ℤ) → length piece ≡ 2048 → length (take n piece) ≡ decode_room rate (length part)
    front_long piece long = length-take-le n piece (omega (arith, fits)) ∙ is

  -- a turn: a part is taken
  module _ {f₀ : Filters} {input out₀ : List ℕ} {f : Filters} {rest out : List ℕ} {o : ℕ} (w : Decodes f₀ input out₀ f rest out o)
      (part later : List ℕ) (cut : rest ≡ part ++ later) where
    outputs : bytes_of f (part ++ later) ≡ bytes_of f part ++ bytes_of (filters_after_bytes f part) later
    outputs = ap bytes (kept_decoded_cut rate f part later) ∙ bytes_cut (samples_of f part) _

    pub inside : o + 2 * decode_room rate (length part) ≤ length out
    inside = rw (bytes_long f part) at (coding_room _ _ w.coding part later cut (filters_after_bytes_cut f part later) outputs)

    next : Decodes f₀ input out₀ (filters_after_bytes f part) later (sets out o (bytes_of f part)) (o + 2 * decode_room rate (length part))
    next = record { coding = rw (bytes_long f part) at (coding_more _ _ w.coding part later cut (filters_after_bytes_cut f part later) outputs) }

    -- the run over the part fills a piece
    module _ (piece : List ℤ) {decoded : List ℤ} (long : length piece ≡ decode_room rate (length part)) (written : decoded ≡ sets piece 0 (samples_of f part)) where
      all : decoded ≡ samples_of f part
      all = written ∙ sets_all piece (samples_of f part) (omega (arith, long, kept_decoded_length rate f part))

      pub room : 2 * length decoded ≤ length (part_of o out)
      room = rw (all, kept_decoded_length rate f part) (omega (arith, inside, part_length o out))

      pub decodes_more : {g : Filters} {left : List ℕ} → g ≡ filters_after_bytes f part → left ≡ sets (part_of o out) 0 (bytes decoded)
          → Decodes f₀ input out₀ g later (put_part o out left) (o + 2 * decode_room rate (length part))
      decodes_more answered packed = rw (answered, packed, all, sets_part o out (bytes_of f part) (omega (arith, inside))) next

  pub decodes_all : {f₀ : Filters} {input out₀ : List ℕ} {f : Filters} {rest out : List ℕ} {o : ℕ} → Decodes f₀ input out₀ f rest out o
      → length rest ≡ 0 → (f ≡ filters_after_bytes f₀ input) × (out ≡ sets out₀ 0 (bytes_of f₀ input))
  unfolding filters_after_bytes pairs_of_bytes kept_at
  decodes_all {rest = rest} w none = coding_all _ _ w.coding (nil_from_length rest none) refl refl
