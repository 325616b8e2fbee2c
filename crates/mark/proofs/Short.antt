-- The line of a session within its bounds has at most 512 bytes, so that many hold it; and writing it is never refused with 2.
use Prim.Native.Nat.{ℕ, ◌≤◌, ◌<◌}
use native.Mathlib.Omega.{arith}
use mathlib.Core.Path.{◌≡◌, refl, ap₂, subst}
use mathlib.Core.Bool.{Bool, true}
use mathlib.Core.List.{List, [], ◌∷◌, ◌++◌}
use lib.IntN.{ℤ, pos, negsuc, nat_abs}
use lib.ListN.{length}
use lib.Dec.{ltb}
use borrow.Author.Tests.{le-ltb}
use Rattle.answers.specs.Numbers.{done, out_of_bounds}
use Rattle.fixed.specs.Number.{In}
use Rattle.fixed.proofs.Signed.{abs_in, sz_in}
use Rattle.band.specs.declared.Band.{Band}
use Rattle.band.specs.declared.Filters.{Filters}
use Rattle.band.specs.Bounds.{all_words}
use Rattle.band.proofs.Boxes.{no_words, more_words, head_word, tail_words}
use Rattle.g722.specs.Session.{session_in_bounds}
use Rattle.text.proofs.Tests.{either}
use Rattle.line.specs.Bounds.{AllWords}
use Rattle.line.proofs.Longest.{bytes, band_le, line_le}
use Rattle.mark.specs.Numbers.{band_numbers, filters_numbers}
use Rattle.mark.specs.Answer.{rate_most, letter_of, line_of, write_number}
use Rattle.mark.proofs.Inside.{inside, BandInside}

-- the test of a list and what it says of each number
pub words : (vs : List ℤ) → all_words vs ≡ true → AllWords vs
words [] e = tt
words (v ∷ vs) e = ((sz_in 15 (head_word v vs e) tt).sz, words vs (tail_words v vs e))

words_front : (vs ends : List ℤ) → all_words (vs ++ ends) ≡ true → all_words vs ≡ true
words_front [] ends e = no_words
words_front (v ∷ vs) ends e = more_words v vs (head_word v (vs ++ ends) e) (words_front vs ends (tail_words v (vs ++ ends) e))

-- ---- a band

-- its numbers before nb and det
abbrev first_numbers : Band → List ℤ
first_numbers b =
    b.s ∷ b.sp ∷ b.sz ∷ b.r1 ∷ b.r2 ∷ b.a1 ∷ b.a2 ∷ b.p1 ∷ b.p2
    ∷ b.d1 ∷ b.d2 ∷ b.d3 ∷ b.d4 ∷ b.d5 ∷ b.d6 ∷ b.b1 ∷ b.b2 ∷ b.b3 ∷ b.b4 ∷ b.b5 ∷ b.b6 ∷ []

no_minus : (v : ℤ) (top : ℕ) → In (pos 0) (pos top) v → pos (nat_abs v) ≡ v
no_minus (pos n) top i = refl
no_minus (negsuc n) top i = absurd i.low.le

band_short : (b : Band) (top : ℕ) → top < 32768 → BandInside b (pos top) → bytes (band_numbers b) ≤ 159
band_short b top h i =
    let whole = words (first_numbers b) (words_front (first_numbers b) (b.nb ∷ b.det ∷ []) i.words) in
    let nb : nat_abs b.nb < 32768 = omega (arith, abs_in _ _ _ i.nb) in
    let det : nat_abs b.det < 32768 = omega (arith, abs_in _ _ _ i.det) in
    subst (λ (l : List ℤ). bytes (first_numbers b ++ l) ≤ 159)
    (ap₂ (λ (v w : ℤ). v ∷ w ∷ []) (no_minus b.nb top i.nb) (no_minus b.det 16384 i.det))
    (band_le (first_numbers b) (nat_abs b.nb) (nat_abs b.det) whole refl nb det)

-- ---- the line

pub line_short : (kind rate start position : ℕ) (f : Filters) → rate ≤ rate_most → session_in_bounds start position f ≡ true
    → length (line_of kind rate start position f) ≤ 512
unfolding line_of filters_numbers
line_short kind rate start position f r e =
    let i = inside start position f e in
    line_le kind (letter_of start) rate position f.x (band_numbers f.low) (band_numbers f.high)
    (omega arith) (omega (arith, i.position_is)) (words f.x i.x_words) i.x_long
    (band_short f.low 18432 (omega arith) i.low) (band_short f.high 22528 (omega arith) i.high)

pub writes : (kind rate start position : ℕ) (f : Filters) (room : ℕ) → rate ≤ rate_most → session_in_bounds start position f ≡ true
    → 512 ≤ room → write_number (session_in_bounds start position f) (line_of kind rate start position f) room ≡ done
unfolding write_number
writes kind rate start position f room r e h =
    let short : length (line_of kind rate start position f) ≤ room = omega (arith, line_short kind rate start position f r e) in
    rw (e, le-ltb room (length (line_of kind rate start position f)) short)

pub write_not_2 : (within : Bool) (line : List ℕ) (room : ℕ) → within ≡ true → ¬ (write_number within line room ≡ out_of_bounds)
unfolding write_number
write_not_2 within line room e =
    rw e (either (λ n. ¬ (n ≡ out_of_bounds)) (ltb room (length line)) (λ z. omega (arith, z)) (λ z. omega (arith, z)))
