-- The invariants of the coders' loops, each over the work that is still to do.
use Prim.Native.Nat.{ℕ, ◌+◌, ◌≤◌, ◌<◌}
use native.Mathlib.Omega.{arith}
use native.Mathlib.Numerals.{add-one}
use mathlib.Core.Path.{◌≡◌, refl, ap, ◌∙◌}
use mathlib.Core.List.{List, [], ◌∷◌, ◌++◌, append-nil}
use lib.IntN.{ℤ}
use lib.ListN.{length, drop, get_or, set, drop_of_length-le}
use lib.Seq.{sets, drop-cons}
use Rattle.answers.proofs.Coding.{Coding, coding_none, coding_room, coding_more, coding_all}
use Rattle.band.specs.declared.Filters.{Filters}
use Rattle.step.specs.Step.{encode_step, decode_step}
use Rattle.runs.specs.Rates.{encode_room, decode_room}
use Rattle.runs.specs.Runs.{pair, pairs_at, kept_of, kept_at, filters_after_pairs, bytes_of_pairs, filters_after_bytes, pairs_of_bytes}
use Rattle.runs.proofs.RateLaws.{samples_a_byte}
use Rattle.runs.proofs.Pairs.{pair_of, pairs_more, pairs_none, kept_one}
use Rattle.runs.proofs.Cut.{bytes_encoded_length, kept_decoded_cut, kept_decoded_length}

-- `rest` is left of xs
module _ (rate : ℕ) (xs : List ℤ) (out₀ : List ℕ) (f : Filters) where
  pub record Encodes (out : List ℕ) (g : Filters) (rest : List ℤ) (o : ℕ) : Type 0 where
    pub coding : Coding filters_after_pairs bytes_of_pairs f (pairs_at rate xs) out₀ g (pairs_at rate rest) out o

  pub encodes_none : encode_room rate (length xs) ≤ length out₀ → Encodes out₀ f xs 0
  encodes_none h = record { coding = coding_none _ _ (omega (arith, bytes_encoded_length rate f xs)) }

  module _ (out : List ℕ) (g : Filters) (rest : List ℤ) (o : ℕ) (w : Encodes out g rest o) where
    pub encodes_more : (part later : List ℤ) → rest ≡ part ++ later → length part ≡ samples_a_byte rate
        → let p = pair_of (samples_a_byte rate) part in let t = encode_step g p.first p.second in
        (o < length out) × Encodes (set out o t.byte) t.filters later (o + 1)
    unfolding filters_after_pairs bytes_of_pairs
    encodes_more part later cut long =
        let p = pair_of (samples_a_byte rate) part in
        let e : pairs_at rate rest ≡ p ∷ pairs_at rate later = ap (pairs_at rate) cut ∙ pairs_more rate part later long in (
          omega (arith, coding_room _ _ w.coding (p ∷ []) _ e refl refl),
          record { coding = coding_more _ _ w.coding (p ∷ []) _ e refl refl },
        )

    pub encodes_all : length rest < samples_a_byte rate
        → (g ≡ filters_after_pairs f (pairs_at rate xs)) × (out ≡ sets out₀ 0 (bytes_of_pairs f (pairs_at rate xs)))
    unfolding filters_after_pairs bytes_of_pairs
    encodes_all few = coding_all _ _ w.coding (pairs_none rate rest few) refl refl

-- what is left of bs at i
module _ (rate : ℕ) (bs : List ℕ) (out₀ : List ℤ) (f : Filters) where
  abbrev kept : Filters → List ℕ → List ℤ
  kept g l = kept_at rate (pairs_of_bytes g l)

  pub record Decodes (out : List ℤ) (g : Filters) (i o : ℕ) : Type 0 where
    pub coding : Coding filters_after_bytes kept f bs out₀ g (drop i bs) out o

  pub decodes_none : decode_room rate (length bs) ≤ length out₀ → Decodes out₀ f 0 0
  decodes_none h = record { coding = coding_none _ _ (omega (arith, kept_decoded_length rate f bs)) }

  module _ (out : List ℤ) (g : Filters) (i o : ℕ) (w : Decodes out g i o) where
    pub decodes_more : i < length bs → let t = decode_step g (get_or bs i 0) in let new = kept_of rate (pair t.first t.second) in
        (o + samples_a_byte rate ≤ length out) × Decodes (sets out o new) t.filters (i + 1) (o + samples_a_byte rate)
    unfolding decode_room filters_after_bytes pairs_of_bytes kept_at
    decodes_more more =
        let b = get_or bs i 0 in
        let p = pair (decode_step g b).first (decode_step g b).second in
        let cut : drop i bs ≡ b ∷ drop (i + 1) bs = rw (add-one i) (drop-cons bs i 0 more) in
        let outputs = kept_decoded_cut rate g (b ∷ []) (drop (i + 1) bs) in
        let alone = append-nil (kept_of rate p) in (
          rw (alone, kept_one rate p) at (coding_room _ _ w.coding (b ∷ []) _ cut refl outputs),
          record { coding = rw (alone, kept_one rate p) at (coding_more _ _ w.coding (b ∷ []) _ cut refl outputs) },
        )

    pub decodes_all : length bs ≤ i → (g ≡ filters_after_bytes f bs) × (out ≡ sets out₀ 0 (kept_at rate (pairs_of_bytes f bs)))
    unfolding filters_after_bytes pairs_of_bytes kept_at
    decodes_all none = coding_all _ _ w.coding (drop_of_length-le bs none) refl refl
