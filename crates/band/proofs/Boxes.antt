-- The Bool of a range, and of a list of numbers, beside what is known of each number.
use Prim.Native.Nat.{ℕ, zero, suc, ◌<◌, ◌^◌}
use mathlib.Core.Bool.{Bool, true, false, ◌&&◌, false≢true}
use mathlib.Core.List.{List, [], ◌∷◌, ◌++◌}
use denote.Array.{each}
use denote.Shadow.{shadow}
use denote.Signed.{SInt}
use mathlib.Core.Path.{◌≡◌, refl, sym, ap, ◌∙◌, subst}
use lib.Dec.{T}
use lib.IntN.{ℤ, pos, negsuc}
use lib.ListN.{get_or, drop, take}
use lib.Signed.{mag, le_z, ◌≤ℤ◌}
use mir.Syntax.{w16}
use mir.Val.{Val}
use Rattle.fixed.specs.Number.{In, In16}
use Rattle.fixed.proofs.Wide.{in16_of}
use Rattle.band.specs.declared.Band.{Band}
use Rattle.band.specs.Bounds.{between, all_between, all_words, numbers}

truth : (b : Bool) → T b → b ≡ true
truth true t = refl
truth false t = absurd t

pub both : {a b : Bool} → a ≡ true → b ≡ true → (a && b) ≡ true
both {a} {b} e f = ap (λ (t : Bool). t && b) e ∙ f

pub left : (a b : Bool) → (a && b) ≡ true → a ≡ true
left true b e = refl
left false b e = e

pub right : (a b : Bool) → (a && b) ≡ true → b ≡ true
right true b e = e
right false b e = absurd (false≢true e)

-- ---- one number
pub between_in : (lo hi z : ℤ) → In lo hi z → between lo hi z ≡ true
between_in lo hi z i = both (truth (le_z lo z) i.low.le) (truth (le_z z hi) i.high.le)

pub in_between : (lo hi z : ℤ) → between lo hi z ≡ true → In lo hi z
in_between lo hi z e = record { low = yes (le_z lo z) (left (le_z lo z) (le_z z hi) e); high = yes (le_z z hi) (right (le_z lo z) (le_z z hi) e) }
  where
    yes : {a b : ℤ} (t : Bool) → le_z a b ≡ true → a ≤ℤ b
    yes t e = record { le = subst T (sym e) tt }

-- ---- the numbers of a list
pub no_words : all_words [] ≡ true
unfolding all_between
no_words = refl

pub more_words : (z : ℤ) (zs : List ℤ) → In16 z → all_words zs ≡ true → all_words (z ∷ zs) ≡ true
unfolding all_between
more_words z zs i e = both (between_in (negsuc 32767) (pos 32767) z i) e

pub head_word : (z : ℤ) (zs : List ℤ) → all_words (z ∷ zs) ≡ true → In16 z
unfolding all_between
head_word z zs e = in_between (negsuc 32767) (pos 32767) z (left (between (negsuc 32767) (pos 32767) z) (all_words zs) e)

pub tail_words : (z : ℤ) (zs : List ℤ) → all_words (z ∷ zs) ≡ true → all_words zs ≡ true
unfolding all_between
tail_words z zs e = right (between (negsuc 32767) (pos 32767) z) (all_words zs) e

pub word_at : (zs : List ℤ) → all_words zs ≡ true → (i : ℕ) → In16 (get_or zs i (pos 0))
word_at [] e i = record { low = record { le = tt }; high = record { le = tt } }
word_at (z ∷ zs) e zero = head_word z zs e
word_at (z ∷ zs) e (suc i) = word_at zs (tail_words z zs e) i

pub words_drop : (n : ℕ) (zs : List ℤ) → all_words zs ≡ true → all_words (drop n zs) ≡ true
words_drop zero zs e = e
words_drop (suc n) [] e = e
words_drop (suc n) (z ∷ zs) e = words_drop n zs (tail_words z zs e)

pub words_take : (n : ℕ) (zs : List ℤ) → all_words zs ≡ true → all_words (take n zs) ≡ true
words_take zero zs e = no_words
words_take (suc n) [] e = e
words_take (suc n) (z ∷ zs) e = more_words z (take n zs) (head_word z zs e) (words_take n zs (tail_words z zs e))

pub words_join : (xs ys : List ℤ) → all_words xs ≡ true → all_words ys ≡ true → all_words (xs ++ ys) ≡ true
words_join [] ys e f = f
words_join (z ∷ zs) ys e f = more_words z (zs ++ ys) (head_word z zs e) (words_join zs ys (tail_words z zs e) f)

-- ---- what the relation of an array of `i16` says of its numbers
pub array_words : (xs : List ℤ) (us : List Val) → shadow (each ℤ (SInt w16).own_val xs us) → all_words xs ≡ true
array_words [] us p = no_words
array_words (x ∷ xs) [] p = absurd p
array_words (x ∷ xs) (u ∷ us) p = more_words x xs (in16_of x (record { sfits = p.0.1 })) (array_words xs us p.1)

-- ---- a band whose fields are each of 16 bits, and fit
pub band_in : (k : Band)
    → In16 k.s → In16 k.sp → In16 k.sz → In16 k.r1 → In16 k.r2 → In16 k.a1 → In16 k.a2 → In16 k.p1 → In16 k.p2
    → In16 k.d1 → In16 k.d2 → In16 k.d3 → In16 k.d4 → In16 k.d5 → In16 k.d6
    → In16 k.b1 → In16 k.b2 → In16 k.b3 → In16 k.b4 → In16 k.b5 → In16 k.b6
    → In16 k.nb → In16 k.det
    → all_words (numbers k) ≡ true
band_in k s sp sz r1 r2 a1 a2 p1 p2 d1 d2 d3 d4 d5 d6 b1 b2 b3 b4 b5 b6 nb det =
    more_words _ _ s (more_words _ _ sp (more_words _ _ sz (more_words _ _ r1 (more_words _ _ r2 (
    more_words _ _ a1 (more_words _ _ a2 (more_words _ _ p1 (more_words _ _ p2 (
    more_words _ _ d1 (more_words _ _ d2 (more_words _ _ d3 (more_words _ _ d4 (more_words _ _ d5 (more_words _ _ d6 (
    more_words _ _ b1 (more_words _ _ b2 (more_words _ _ b3 (more_words _ _ b4 (more_words _ _ b5 (more_words _ _ b6 (
    more_words _ _ nb (more_words _ _ det no_words))))))))))))))))))))))

pub word_told : {z : ℤ} → mag z < 2 ^ 15 → In16 z
word_told {z} h = in16_of z (record { sfits = h })
