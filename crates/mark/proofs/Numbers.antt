-- The filters of their own numbers are the filters, and 70 numbers are those of their filters.
use Prim.Native.Nat.{ℕ, zero, suc, ◌+◌, ◌≤◌}
use native.Mathlib.Omega.{arith}
use mathlib.Core.Path.{◌≡◌, refl, sym, ap, ◌∙◌}
use mathlib.Core.Bool.{Bool, true, false}
use mathlib.Core.List.{List, [], ◌∷◌, ◌++◌}
use lib.IntN.{ℤ, pos}
use lib.ListN.{length, take, drop, get_or, length-drop}
use lib.Seq.{take_at, drop_at, drop-cons, drop-drop}
use Rattle.std.specs.Bool.{then_some}
use Rattle.std.specs.Prelude.{Option, Some, None}
use Rattle.std.proofs.lemmas.List.{take_all, take-append-drop}
use Rattle.band.specs.declared.Band.{Band}
use Rattle.band.specs.declared.Filters.{Filters}
use Rattle.band.specs.Bounds.{all_words, filters_in_bounds}
use Rattle.band.proofs.Boxes.{words_join}
use Rattle.g722.specs.Session.{session_in_bounds}
use Rattle.mark.specs.Numbers.{band_numbers, band_of, filters_numbers, filters_of}
use Rattle.mark.proofs.Inside.{inside}

-- whatever follows a band's numbers
band_before : (b : Band) (more : List ℤ) → band_of (band_numbers b ++ more) ≡ b
band_before b more = refl

band_alone : (b : Band) → band_of (band_numbers b) ≡ b
band_alone b = refl

pub filters_back : (f : Filters) → length f.x ≡ 24 → filters_of (filters_numbers f) ≡ f
unfolding filters_of filters_numbers
filters_back f long =
    let bands = band_numbers f.low ++ band_numbers f.high in
    let to_low : drop 24 (f.x ++ bands) ≡ bands = drop_at f.x bands 24 long in
    let to_high : drop 47 (f.x ++ bands) ≡ band_numbers f.high = sym (drop-drop 23 24 (f.x ++ bands)) ∙ ap (drop 23) to_low in
    let low = ap band_of to_low ∙ band_before f.low (band_numbers f.high) in
    let high = ap band_of to_high ∙ band_alone f.high in
    λ i. record { x = take_at f.x bands 24 long i; low = low i; high = high i }

-- k numbers from i on, one by one
abbrev from : List ℤ → ℕ → ℕ → List ℤ
from l i zero = []
from l i (suc k) = get_or l i (pos 0) ∷ from l (suc i) k

from_is : (l : List ℤ) (k i : ℕ) → i + k ≤ length l → from l i k ≡ take k (drop i l)
from_is l zero i h = refl
from_is l (suc k) i h =
    ap (λ (m : List ℤ). get_or l i (pos 0) ∷ m) (from_is l k (suc i) (omega arith))
    ∙ sym (ap (take (suc k)) (drop-cons l i (pos 0) (omega arith)))

band_back : (l : List ℤ) → 23 ≤ length l → band_numbers (band_of l) ≡ take 23 l
band_back l h = from_is l 23 0 h

numbers_back : (vs : List ℤ) → length vs ≡ 70 → filters_numbers (filters_of vs) ≡ vs
unfolding filters_of filters_numbers
numbers_back vs long =
    let low = band_back (drop 24 vs) (omega (arith, length-drop 24 vs)) in
    let to_high : drop 23 (drop 24 vs) ≡ drop 47 vs = drop-drop 23 24 vs in
    let high = band_back (drop 47 vs) (omega (arith, length-drop 47 vs)) ∙ take_all 23 (drop 47 vs) (omega (arith, length-drop 47 vs)) ∙ sym to_high in
    (λ i. take 24 vs ++ (low i ++ high i))
    ∙ ap (λ (l : List ℤ). take 24 vs ++ l) (take-append-drop 23 (drop 24 vs)) ∙ take-append-drop 24 vs

-- filters within their bounds are of words alone
bounds_words : (vs : List ℤ) → length vs ≡ 70 → filters_in_bounds (filters_of vs) ≡ true → all_words vs ≡ true
unfolding session_in_bounds filters_numbers
bounds_words vs long e =
    let f = filters_of vs in
    let i = inside 0 0 f e in
    let all = words_join f.x (band_numbers f.low ++ band_numbers f.high) i.x_words
    (words_join (band_numbers f.low) (band_numbers f.high) i.low.words i.high.words) in
    ap all_words (sym (numbers_back vs long)) ∙ all

-- the numbers, if all are words
abbrev words_in : List ℤ → Option (List ℤ)
words_in vs = then_some (all_words vs) vs

pub no_filters : (vs : List ℤ) → length vs ≡ 70 → None ≡ words_in vs → None ≡ then_some (filters_in_bounds (filters_of vs)) (filters_of vs)
no_filters vs long e = by_test (filters_in_bounds (filters_of vs)) refl
  where
    by_test : (b : Bool) → filters_in_bounds (filters_of vs) ≡ b → None ≡ then_some b (filters_of vs)
    by_test false i = refl
    by_test true i = absurd (let w : None ≡ Some vs = rw (bounds_words vs long i) at e in cc)

pub these_words : (vs ws : List ℤ) → Some ws ≡ words_in vs → ws ≡ vs
these_words vs ws e = by_test (all_words vs) e
  where
    by_test : (b : Bool) → Some ws ≡ then_some b vs → ws ≡ vs
    by_test true e = cc
    by_test false e = cc
