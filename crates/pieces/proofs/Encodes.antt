-- The encoder's loop over pieces of the input. Its invariant speaks of what is still to do.
use mathlib.Core.Bool.{Bool, true, false, not, and-false}
use mathlib.Core.List.{List, ◌++◌}
use mathlib.Core.Path.{◌≡◌, refl, ap, ◌∙◌}
use Prim.Native.Nat.{ℕ, ◌+◌, ◌/◌, ◌%◌, ◌≤◌, min}
use native.Mathlib.Omega.{arith}
use lib.Dec.{ltb}
use lib.IntN.{ℤ}
use lib.ListN.{length, length-append}
use lib.Seq.{sets}
use borrow.Author.Tests.{ltb-true, ltb-false, eq-eqb}
use Rattle.answers.proofs.Coding.{Coding, coding_none, coding_room, coding_more, coding_all}
use Rattle.samples.specs.Bytes.{samples}
use Rattle.samples.proofs.Bytes.{length-samples}
use Rattle.band.specs.declared.Filters.{Filters}
use Rattle.runs.specs.Rates.{resamples, encode_room, odd_at}
use Rattle.runs.specs.Runs.{pairs_at, filters_after_pairs, bytes_of_pairs}
use Rattle.runs.proofs.RateLaws.{even_rest}
use Rattle.runs.proofs.Pairs.{no_pairs}
use Rattle.runs.proofs.Cut.{filters_encoded_cut, bytes_encoded_cut, bytes_encoded_length}
use Rattle.pieces.proofs.Lists.{part_of, put_part, part_length, sets_part, samples_cut, samples_none}

even_not_odd : (rate n : ℕ) → n % 2 ≡ 0 → odd_at rate n ≡ false
unfolding odd_at
even_not_odd rate n e = rw (eq-eqb (n % 2) 0 e) (and-false (not (resamples rate)))

-- a piece of bytes whose samples end with a pair: as many as whole pairs have, or all that are left
module _ (rate most n : ℕ) (even : most % 4 ≡ 0) (whole : odd_at rate (n / 2) ≡ false) where
  no_odd_by : (t : Bool) → ltb most n ≡ t → odd_at rate (min most n / 2) ≡ false
  no_odd_by true e = even_not_odd rate (min most n / 2) (omega (arith, ltb-true most n e))
  no_odd_by false e =
      let m : min most n ≡ n = omega (arith, ltb-false most n e) in
      rw m whole

  no_odd : odd_at rate (min most n / 2) ≡ false
  no_odd = no_odd_by (ltb most n) refl

-- ---- the loop

module _ (rate : ℕ) where
  abbrev pub filters_after : Filters → List ℤ → Filters
  filters_after f xs = filters_after_pairs f (pairs_at rate xs)

  abbrev pub bytes_of : Filters → List ℤ → List ℕ
  bytes_of f xs = bytes_of_pairs f (pairs_at rate xs)

  -- `rest` is left of the input; its samples end with a pair
  pub record Encodes (f₀ : Filters) (input out₀ : List ℕ) (f : Filters) (rest out : List ℕ) (o : ℕ) : Type 0 where
    pub even : length rest % 2 ≡ 0
    pub pairs : odd_at rate (length rest / 2) ≡ false
    pub coding : Coding filters_after bytes_of f₀ (samples input) out₀ f (samples rest) out o

  pub encodes_none : (f₀ : Filters) (input out₀ : List ℕ) → length input % 2 ≡ 0 → odd_at rate (length input / 2) ≡ false
      → encode_room rate (length input / 2) ≤ length out₀ → Encodes f₀ input out₀ f₀ input out₀ 0
  encodes_none f₀ input out₀ even pairs room = record {
    even = even;
    pairs = pairs;
    coding = coding_none _ _ (rw (bytes_encoded_length rate f₀ (samples input), length-samples input) room);
  }

  -- a turn: a part is taken, of 4096 bytes or all that are left
  module _ {f₀ : Filters} {input out₀ : List ℕ} {f : Filters} {rest out : List ℕ} {o : ℕ} (w : Encodes f₀ input out₀ f rest out o)
      (part later : List ℕ) (cut : rest ≡ part ++ later) (most : ℕ) (size : length part ≡ min most (length rest)) (full : most ≡ 4096) where
    abbrev n : ℕ
    n = length part / 2

    long : length rest ≡ length part + length later
    long = ap length cut ∙ length-append part later

    halves : n + length later / 2 ≡ length rest / 2
    halves = omega (arith, long, w.even)

    cut_samples : samples rest ≡ samples part ++ samples later
    cut_samples = ap samples cut ∙ samples_cut part later (omega (arith, w.even))

    pairs_first : odd_at rate n ≡ false
    pairs_first = rw size (no_odd rate most (length rest) (omega (arith, full)) w.pairs)

    first : odd_at rate (length (samples part)) ≡ false
    first = rw (length-samples part) pairs_first

    written_long : length (bytes_of f (samples part)) ≡ encode_room rate n
    written_long = bytes_encoded_length rate f (samples part) ∙ ap (encode_room rate) (length-samples part)

    pub inside : o + encode_room rate n ≤ length out
    inside =
        rw written_long at
        (coding_room _ _ w.coding _ _ cut_samples (filters_encoded_cut rate f _ (samples later) first) (bytes_encoded_cut rate f _ (samples later) first))

    next : Encodes f₀ input out₀ (filters_after f (samples part)) later (sets out o (bytes_of f (samples part))) (o + encode_room rate n)
    next = record {
      even = omega (arith, long, w.even);
      pairs = even_rest rate n (length later / 2) pairs_first (rw halves w.pairs);
      coding = rw written_long at
          (coding_more _ _ w.coding _ _ cut_samples (filters_encoded_cut rate f _ (samples later) first) (bytes_encoded_cut rate f _ (samples later) first));
    }

    module _ {unpacked : List ℤ} (is : unpacked ≡ samples part) where
      pub room : encode_room rate (length unpacked) ≤ length (part_of o out)
      room = rw (is, length-samples part) (omega (arith, inside, part_length o out))

      pub encodes_more : {g : Filters} {left : List ℕ} → g ≡ filters_after f unpacked → left ≡ sets (part_of o out) 0 (bytes_of f unpacked)
          → Encodes f₀ input out₀ g later (put_part o out left) (o + encode_room rate n)
      encodes_more answered written = rw (answered, written, is, sets_part o out (bytes_of f (samples part)) (omega (arith, inside))) next

  pub encodes_all : {f₀ : Filters} {input out₀ : List ℕ} {f : Filters} {rest out : List ℕ} {o : ℕ} → Encodes f₀ input out₀ f rest out o
      → length rest ≡ 0 → (f ≡ filters_after f₀ (samples input)) × (out ≡ sets out₀ 0 (bytes_of f₀ (samples input)))
  unfolding filters_after_pairs bytes_of_pairs
  encodes_all {f = f} {rest = rest} w none =
      coding_all _ _ w.coding (samples_none rest (omega arith))
      (ap (filters_after_pairs f) (no_pairs rate)) (ap (bytes_of_pairs f) (no_pairs rate))
