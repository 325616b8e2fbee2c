-- How pairs and samples go together, over both rates at once: a turn of each loop, lengths, and lists in two parts.
use Prim.Native.Nat.{ℕ, suc, ◌+◌, ◌-◌, ◌/◌, ◌%◌, ◌<◌}
use native.Mathlib.Omega.{arith}
use native.Mathlib.Numerals.{add-one, one-add}
use mathlib.Core.Bool.{Bool, true, false, cond, not, ◌&&◌}
use mathlib.Core.Path.{◌≡◌, refl, sym, ap, ◌∙◌}
use mathlib.Core.List.{List, [], ◌∷◌, ◌++◌, append_assoc}
use lib.IntN.{ℤ, pos}
use lib.Dec.{eqb}
use lib.ListN.{length, get_or, set, length-append}
use lib.Seq.{sets}
use borrow.Author.Tests.{eqb-true, not-false}
use Rattle.band.specs.declared.Filters.{Filters}
use Rattle.step.specs.Step.{decode_step}
use Rattle.runs.specs.Rates.{resamples, encode_room, decode_room, odd_at}
use Rattle.runs.specs.Runs.{Pair, pair, doubled, paired, pairs_at, kept_of, kept_at, pairs_of_bytes}
use Rattle.runs.proofs.RateLaws.{samples_a_byte, some_samples, nothing, no_samples, decode_room_cut}

-- ---- the encoder's next pair

-- the first and the last of the samples that go with a byte
abbrev pub pair_of : ℕ → List ℤ → Pair
pair_of n xs = pair (get_or xs 0 (pos 0)) (get_or xs (n - 1) (pos 0))

more_by : (t : Bool) (xs later : List ℤ) → length xs ≡ cond t 1 2
    → cond t (doubled (xs ++ later)) (paired (xs ++ later)) ≡ pair_of (cond t 1 2) xs ∷ cond t (doubled later) (paired later)
unfolding doubled paired
more_by true (a ∷ []) later long = refl
more_by true [] later long = absurd (omega arith)
more_by true (a ∷ b ∷ xs) later long = absurd (omega arith)
more_by false (a ∷ b ∷ []) later long = refl
more_by false [] later long = absurd (omega arith)
more_by false (a ∷ []) later long = absurd (omega arith)
more_by false (a ∷ b ∷ c ∷ xs) later long = absurd (omega arith)

pub pairs_more : (rate : ℕ) (xs later : List ℤ) → length xs ≡ samples_a_byte rate
    → pairs_at rate (xs ++ later) ≡ pair_of (samples_a_byte rate) xs ∷ pairs_at rate later
unfolding pairs_at
pairs_more rate = more_by (resamples rate)

none_by : (t : Bool) (xs : List ℤ) → length xs < cond t 1 2 → cond t (doubled xs) (paired xs) ≡ []
unfolding doubled paired
none_by t [] few = nothing t []
none_by true (a ∷ xs) few = absurd (omega arith)
none_by false (a ∷ []) few = refl
none_by false (a ∷ b ∷ xs) few = absurd (omega arith)

pub pairs_none : (rate : ℕ) (xs : List ℤ) → length xs < samples_a_byte rate → pairs_at rate xs ≡ []
unfolding pairs_at
pairs_none rate = none_by (resamples rate)

-- ---- the decoder's next samples

both_by : (t : Bool) (a b : ℤ) (out : List ℤ) (o : ℕ) → ◌≡◌ {A = ℕ} (cond t 1 2) 2
    → set (set out o a) (o + 1) b ≡ sets out o (a ∷ cond t [] (b ∷ []))
both_by true a b out o two = absurd (omega arith)
both_by false a b out o two = rw (add-one o)

pub kept_both : (rate : ℕ) (a b : ℤ) (out : List ℤ) (o : ℕ) → samples_a_byte rate ≡ 2
    → set (set out o a) (o + 1) b ≡ sets out o (kept_of rate (pair a b))
unfolding kept_of
kept_both rate = both_by (resamples rate)

first_by : (t : Bool) (a b : ℤ) (out : List ℤ) (o : ℕ) → (◌≡◌ {A = ℕ} (cond t 1 2) 2 → ⊥) → set out o a ≡ sets out o (a ∷ cond t [] (b ∷ []))
first_by true a b out o one = refl
first_by false a b out o one = absurd (one refl)

pub kept_first : (rate : ℕ) (a b : ℤ) (out : List ℤ) (o : ℕ) → (samples_a_byte rate ≡ 2 → ⊥) → set out o a ≡ sets out o (kept_of rate (pair a b))
unfolding kept_of
kept_first rate = first_by (resamples rate)

pub no_pairs : (rate : ℕ) → pairs_at rate [] ≡ []
no_pairs rate = pairs_none rate [] (some_samples rate)

-- ---- as many items as the room says

doubled_length : (xs : List ℤ) → length (doubled xs) ≡ length xs
unfolding doubled
doubled_length [] = refl
doubled_length (a ∷ xs) = ap suc (doubled_length xs)

paired_length : (xs : List ℤ) → length (paired xs) ≡ length xs / 2
unfolding paired
paired_length [] = refl
paired_length (a ∷ []) = refl
paired_length (a ∷ b ∷ xs) = let h = paired_length xs in omega arith

pairs_length_by : (t : Bool) (xs : List ℤ) → length (cond t (doubled xs) (paired xs)) ≡ cond t (length xs) (length xs / 2)
pairs_length_by true xs = doubled_length xs
pairs_length_by false xs = paired_length xs

pub pairs_length : (rate : ℕ) (xs : List ℤ) → length (pairs_at rate xs) ≡ encode_room rate (length xs)
unfolding pairs_at encode_room
pairs_length rate xs = pairs_length_by (resamples rate) xs

kept_one_by : (t : Bool) (p : Pair) → suc (length (cond t [] (p.second ∷ []))) ≡ cond t 1 2
kept_one_by true p = refl
kept_one_by false p = refl

-- what is kept of a pair is what one byte gives
pub kept_one : (rate : ℕ) (p : Pair) → length (kept_of rate p) ≡ decode_room rate 1
unfolding kept_of decode_room
kept_one rate p = kept_one_by (resamples rate) p

pub kept_length : (rate : ℕ) (ps : List Pair) → length (kept_at rate ps) ≡ decode_room rate (length ps)
unfolding kept_at
kept_length rate [] = sym (no_samples rate)
kept_length rate (p ∷ ps) =
    let one = kept_one rate p in
    let rest = kept_length rate ps in
    let both = decode_room_cut rate 1 (length ps) in
    length-append (kept_of rate p) (kept_at rate ps) ∙ rw (one, rest, ← both, one-add)

pub pairs_of_length : (f : Filters) (bs : List ℕ) → length (pairs_of_bytes f bs) ≡ length bs
unfolding pairs_of_bytes
pairs_of_length f [] = refl
pairs_of_length f (b ∷ bs) = ap suc (pairs_of_length (decode_step f b).filters bs)

-- ---- lists in two parts

paired_cut : (a b : List ℤ) → length a % 2 ≡ 0 → paired (a ++ b) ≡ paired a ++ paired b
unfolding paired
paired_cut [] b even = refl
paired_cut (x ∷ []) b even = absurd (omega arith)
paired_cut (x ∷ y ∷ a) b even = ap (λ (l : List Pair). pair x y ∷ l) (paired_cut a b (omega arith))

doubled_cut : (a b : List ℤ) → doubled (a ++ b) ≡ doubled a ++ doubled b
unfolding doubled
doubled_cut [] b = refl
doubled_cut (x ∷ a) b = ap (λ (l : List Pair). pair x x ∷ l) (doubled_cut a b)

pairs_cut_by : (t : Bool) (a b : List ℤ) → (not t && not (eqb (length a % 2) 0)) ≡ false
    → cond t (doubled (a ++ b)) (paired (a ++ b)) ≡ cond t (doubled a) (paired a) ++ cond t (doubled b) (paired b)
pairs_cut_by true a b even = doubled_cut a b
pairs_cut_by false a b even = paired_cut a b (eqb-true _ _ (not-false _ even))

pub pairs_cut : (rate : ℕ) (a b : List ℤ) → odd_at rate (length a) ≡ false → pairs_at rate (a ++ b) ≡ pairs_at rate a ++ pairs_at rate b
unfolding pairs_at odd_at
pairs_cut rate a b even = pairs_cut_by (resamples rate) a b even

pub kept_cut : (rate : ℕ) (ps qs : List Pair) → kept_at rate (ps ++ qs) ≡ kept_at rate ps ++ kept_at rate qs
unfolding kept_at
kept_cut rate [] qs = refl
kept_cut rate (p ∷ ps) qs = rw (kept_cut rate ps qs, append_assoc)
