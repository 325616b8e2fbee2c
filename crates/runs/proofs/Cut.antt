-- A run over a ++ b is a run over a and then one over b; and how long its output is.
use Prim.Native.Nat.{ℕ, suc}
use mathlib.Core.Bool.{false}
use mathlib.Core.Path.{◌≡◌, refl, ap, ◌∙◌}
use mathlib.Core.List.{List, [], ◌∷◌, ◌++◌}
use lib.IntN.{ℤ}
use lib.ListN.{length}
use Rattle.band.specs.declared.Filters.{Filters}
use Rattle.step.specs.Step.{encode_step, decode_step}
use Rattle.runs.specs.Rates.{encode_room, decode_room, odd_at}
use Rattle.runs.specs.Runs.{Pair, pair, pairs_at, kept_at, filters_after_pairs, bytes_of_pairs, filters_after_bytes, pairs_of_bytes}
use Rattle.runs.proofs.Pairs.{pairs_length, pairs_of_length, kept_length, pairs_cut, kept_cut}

filters_after_pairs_cut : (f : Filters) (ps qs : List Pair) → filters_after_pairs f (ps ++ qs) ≡ filters_after_pairs (filters_after_pairs f ps) qs
unfolding filters_after_pairs
filters_after_pairs_cut f [] qs = refl
filters_after_pairs_cut f (p ∷ ps) qs = filters_after_pairs_cut (encode_step f p.first p.second).filters ps qs

bytes_of_pairs_cut : (f : Filters) (ps qs : List Pair)
    → bytes_of_pairs f (ps ++ qs) ≡ bytes_of_pairs f ps ++ bytes_of_pairs (filters_after_pairs f ps) qs
unfolding filters_after_pairs bytes_of_pairs
bytes_of_pairs_cut f [] qs = refl
bytes_of_pairs_cut f (p ∷ ps) qs =
    let t = encode_step f p.first p.second in
    ap (λ (l : List ℕ). t.byte ∷ l) (bytes_of_pairs_cut t.filters ps qs)

pub filters_after_bytes_cut : (f : Filters) (a b : List ℕ) → filters_after_bytes f (a ++ b) ≡ filters_after_bytes (filters_after_bytes f a) b
unfolding filters_after_bytes
filters_after_bytes_cut f [] b = refl
filters_after_bytes_cut f (x ∷ a) b = filters_after_bytes_cut (decode_step f x).filters a b

pairs_of_bytes_cut : (f : Filters) (a b : List ℕ) → pairs_of_bytes f (a ++ b) ≡ pairs_of_bytes f a ++ pairs_of_bytes (filters_after_bytes f a) b
unfolding filters_after_bytes pairs_of_bytes
pairs_of_bytes_cut f [] b = refl
pairs_of_bytes_cut f (x ∷ a) b =
    let t = decode_step f x in
    ap (λ (l : List Pair). pair t.first t.second ∷ l) (pairs_of_bytes_cut t.filters a b)

bytes_of_pairs_length : (f : Filters) (ps : List Pair) → length (bytes_of_pairs f ps) ≡ length ps
unfolding bytes_of_pairs
bytes_of_pairs_length f [] = refl
bytes_of_pairs_length f (p ∷ ps) = ap suc (bytes_of_pairs_length (encode_step f p.first p.second).filters ps)

-- ---- the encoder's run over samples; at rates other than 8000 the first part ends with a pair

module _ (rate : ℕ) (f : Filters) (a b : List ℤ) (even : odd_at rate (length a) ≡ false) where
  pub filters_encoded_cut : filters_after_pairs f (pairs_at rate (a ++ b)) ≡ filters_after_pairs (filters_after_pairs f (pairs_at rate a)) (pairs_at rate b)
  filters_encoded_cut = ap (filters_after_pairs f) (pairs_cut rate a b even) ∙ filters_after_pairs_cut f (pairs_at rate a) _

  pub bytes_encoded_cut : bytes_of_pairs f (pairs_at rate (a ++ b))
      ≡ bytes_of_pairs f (pairs_at rate a) ++ bytes_of_pairs (filters_after_pairs f (pairs_at rate a)) (pairs_at rate b)
  bytes_encoded_cut = ap (bytes_of_pairs f) (pairs_cut rate a b even) ∙ bytes_of_pairs_cut f (pairs_at rate a) _

pub bytes_encoded_length : (rate : ℕ) (f : Filters) (xs : List ℤ) → length (bytes_of_pairs f (pairs_at rate xs)) ≡ encode_room rate (length xs)
bytes_encoded_length rate f xs = bytes_of_pairs_length f (pairs_at rate xs) ∙ pairs_length rate xs

-- ---- the samples that are kept of the decoder's run

pub kept_decoded_cut : (rate : ℕ) (f : Filters) (a b : List ℕ)
    → kept_at rate (pairs_of_bytes f (a ++ b)) ≡ kept_at rate (pairs_of_bytes f a) ++ kept_at rate (pairs_of_bytes (filters_after_bytes f a) b)
kept_decoded_cut rate f a b = ap (kept_at rate) (pairs_of_bytes_cut f a b) ∙ kept_cut rate (pairs_of_bytes f a) _

pub kept_decoded_length : (rate : ℕ) (f : Filters) (bs : List ℕ) → length (kept_at rate (pairs_of_bytes f bs)) ≡ decode_room rate (length bs)
kept_decoded_length rate f bs = kept_length rate (pairs_of_bytes f bs) ∙ ap (decode_room rate) (pairs_of_length f bs)
