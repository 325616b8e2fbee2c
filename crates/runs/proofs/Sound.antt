-- Runs keep the filters within the bounds, and what they give out has its type.
use Prim.Native.Nat.{ℕ, zero, suc, ◌<◌}
use native.Mathlib.Omega.{arith}
use mathlib.Core.Bool.{Bool, true, false, cond}
use mathlib.Core.Path.{◌≡◌}
use mathlib.Core.List.{List, [], ◌∷◌, ◌++◌}
use lib.IntN.{ℤ}
use lib.ListN.{get_or}
use Rattle.fixed.specs.Number.{In16}
use Rattle.band.specs.declared.Filters.{Filters}
use Rattle.band.specs.Bounds.{all_words, filters_in_bounds}
use Rattle.band.proofs.Boxes.{no_words, more_words, head_word, tail_words}
use Rattle.step.specs.Step.{encode_step, decode_step}
use Rattle.step.proofs.Laws.{encode_sound, decode_sound}
use Rattle.runs.specs.Rates.{resamples}
use Rattle.runs.specs.Runs.{Pair, doubled, paired, pairs_at, kept_of, kept_at}
use Rattle.runs.specs.Runs.{filters_after_pairs, bytes_of_pairs, filters_after_bytes, pairs_of_bytes}

-- ---- pairs of samples of 16 bits

pub data Words : List Pair → Type 0 where
  none : Words []
  more : {p : Pair} {ps : List Pair} → In16 p.first → In16 p.second → Words ps → Words (p ∷ ps)

doubled_words : (xs : List ℤ) → all_words xs ≡ true → Words (doubled xs)
unfolding doubled
doubled_words [] w = none
doubled_words (a ∷ xs) w = more (head_word a xs w) (head_word a xs w) (doubled_words xs (tail_words a xs w))

paired_words : (xs : List ℤ) → all_words xs ≡ true → Words (paired xs)
unfolding paired
paired_words [] w = none
paired_words (a ∷ []) w = none
paired_words (a ∷ b ∷ xs) w =
    let v = tail_words a (b ∷ xs) w in
    more (head_word a (b ∷ xs) w) (head_word b xs v) (paired_words xs (tail_words b xs v))

pairs_words_by : (t : Bool) (xs : List ℤ) → all_words xs ≡ true → Words (cond t (doubled xs) (paired xs))
pairs_words_by true = doubled_words
pairs_words_by false = paired_words

pub pairs_words : (rate : ℕ) (xs : List ℤ) → all_words xs ≡ true → Words (pairs_at rate xs)
unfolding pairs_at
pairs_words rate = pairs_words_by (resamples rate)

kept_words_by : (t : Bool) (p : Pair) (zs : List ℤ) → In16 p.first → In16 p.second → all_words zs ≡ true
    → all_words (p.first ∷ (cond t [] (p.second ∷ []) ++ zs)) ≡ true
kept_words_by true p zs i j w = more_words _ zs i w
kept_words_by false p zs i j w = more_words _ _ i (more_words _ zs j w)

pub kept_words : (rate : ℕ) (ps : List Pair) → Words ps → all_words (kept_at rate ps) ≡ true
unfolding kept_at kept_of
kept_words rate [] none = no_words
kept_words rate (p ∷ ps) (more i j w) = kept_words_by (resamples rate) p (kept_at rate ps) i j (kept_words rate ps w)

-- ---- the runs

pub filters_after_pairs_sound : (f : Filters) (ps : List Pair) → Words ps → filters_in_bounds f ≡ true
    → filters_in_bounds (filters_after_pairs f ps) ≡ true
unfolding filters_after_pairs
filters_after_pairs_sound f [] none h = h
filters_after_pairs_sound f (p ∷ ps) (more i j w) h =
    let t = encode_sound f p.first p.second i j h in
    filters_after_pairs_sound (encode_step f p.first p.second).filters ps w t.0

pub bytes_of_pairs_below : (f : Filters) (ps : List Pair) → Words ps → filters_in_bounds f ≡ true → (i : ℕ) → get_or (bytes_of_pairs f ps) i 0 < 256
unfolding bytes_of_pairs
bytes_of_pairs_below f [] none h i = omega arith
bytes_of_pairs_below f (p ∷ ps) (more a b w) h zero = (encode_sound f p.first p.second a b h).1
bytes_of_pairs_below f (p ∷ ps) (more a b w) h (suc i) =
    let t = encode_sound f p.first p.second a b h in
    bytes_of_pairs_below (encode_step f p.first p.second).filters ps w t.0 i

pub filters_after_bytes_sound : (f : Filters) (bs : List ℕ) → filters_in_bounds f ≡ true → filters_in_bounds (filters_after_bytes f bs) ≡ true
unfolding filters_after_bytes
filters_after_bytes_sound f [] h = h
filters_after_bytes_sound f (b ∷ bs) h = filters_after_bytes_sound (decode_step f b).filters bs (decode_sound f b h).0

pub pairs_of_bytes_words : (f : Filters) (bs : List ℕ) → filters_in_bounds f ≡ true → Words (pairs_of_bytes f bs)
unfolding pairs_of_bytes
pairs_of_bytes_words f [] h = none
pairs_of_bytes_words f (b ∷ bs) h =
    let t = decode_sound f b h in
    more t.1 t.2 (pairs_of_bytes_words (decode_step f b).filters bs t.0)
