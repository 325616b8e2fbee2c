-- The QMF sums: how a sum of products goes on, how large it is, and which number of x stands in which place.
use Prim.Native.Nat.{ℕ, zero, suc, ◌+◌, ◌-◌, ◌*◌, ◌≤◌, ◌<◌, zero-le}
use native.Mathlib.Nat.{le_trans, add-le-add, mul-le-mul, le_refl}
use native.Mathlib.Omega.{arith}
use mathlib.Core.Bool.{true}
use mathlib.Core.List.{List, [], ◌∷◌, reverse, zip_with}
use mathlib.Core.Path.{◌≡◌, ◌∙◌, refl, sym, ap, subst}
use lib.IntN.{ℤ, pos, nat_abs, ◌+ℤ◌, ◌*ℤ◌, zero-*ℤ, *ℤ-zero}
use lib.ListN.{get_or, take, drop}
use lib.Seq.{get_or-drop}
use Rattle.std.proofs.lemmas.Int.{unsigned_abs-mul}
use Rattle.std.proofs.lemmas.List.{get_or-reverse}
use Rattle.fixed.specs.Number.{minus, In, In16}
use Rattle.fixed.proofs.Signed.{abs_in, abs_add, in_abs}
use Rattle.band.specs.Tables.{QMF_COEFFS}
use Rattle.band.specs.Bounds.{all_words}
use Rattle.band.proofs.Boxes.{more_words, head_word, tail_words, words_drop, words_take}
use Rattle.band.proofs.Totals.{total_all, total_next}
use Rattle.step.specs.Qmf.{dot, every_other, even_sum, odd_sum}

-- ---- a sum over numbers of 16 bits
abbrev weight : List ℤ → ℕ
weight [] = 0
weight (c ∷ cs) = 32768 * nat_abs c + weight cs

term_most : (x c : ℤ) → In16 x → nat_abs (x *ℤ c) ≤ 32768 * nat_abs c
term_most x c i = rw (unsigned_abs-mul x c) (mul-le-mul (abs_in (minus 32768) (pos 32767) x i) (le_refl _))

dot_most : (xs cs : List ℤ) → all_words xs ≡ true → nat_abs (dot xs cs) ≤ weight cs
unfolding zip_with
dot_most [] cs e = zero-le
dot_most (x ∷ xs) [] e = zero-le
dot_most (x ∷ xs) (c ∷ cs) e =
    le_trans (abs_add (x *ℤ c) (dot xs cs)) (add-le-add (term_most x c (head_word x xs e)) (dot_most xs cs (tail_words x xs e)))

dot_in : (xs cs : List ℤ) → weight cs ≡ 212402176 → all_words xs ≡ true → In (minus 212402176) (pos 212402176) (dot xs cs)
dot_in xs cs w e = in_abs (dot xs cs) 212402176 (subst (λ (n : ℕ). nat_abs (dot xs cs) ≤ n) w (dot_most xs cs e))

-- ---- every other number
words_other : (x : List ℤ) → all_words x ≡ true → all_words (every_other x) ≡ true
words_other [] e = e
words_other (a ∷ []) e = e
words_other (a ∷ b ∷ xs) e =
    more_words a (every_other xs) (head_word a (b ∷ xs) e) (words_other xs (tail_words b xs (tail_words a (b ∷ xs) e)))

double : (i : ℕ) → 2 * suc i ≡ suc (suc (2 * i))
double i = omega arith

other_at : (x : List ℤ) (i : ℕ) → get_or (every_other x) i (pos 0) ≡ get_or x (2 * i) (pos 0)
other_at [] i = refl
other_at (a ∷ []) zero = refl
other_at (a ∷ []) (suc i) = rw (double i)
other_at (a ∷ b ∷ xs) zero = refl
other_at (a ∷ b ∷ xs) (suc i) = rw (double i) (other_at xs i)

next_at : (x : List ℤ) (i : ℕ) → get_or (every_other (drop 1 x)) i (pos 0) ≡ get_or x (2 * i + 1) (pos 0)
next_at x i =
    let e : 1 + 2 * i ≡ 2 * i + 1 = omega arith in
    other_at (drop 1 x) i ∙ get_or-drop 1 x (2 * i) (pos 0) ∙ ap (λ (n : ℕ). get_or x n (pos 0)) e

reverse_at : (i : ℕ) → i < 12 → get_or (reverse QMF_COEFFS) i (pos 0) ≡ get_or QMF_COEFFS (11 - i) (pos 0)
reverse_at i h = get_or-reverse QMF_COEFFS i (pos 0) h

-- ---- the two sums up to product i, over a list of numbers of 16 bits
abbrev pub odd_up_to : List ℤ → ℕ → ℤ
odd_up_to x i = dot (take i (every_other x)) QMF_COEFFS

abbrev pub even_up_to : List ℤ → ℕ → ℤ
even_up_to x i = dot (take i (every_other (drop 1 x))) (reverse QMF_COEFFS)

module _ (x : List ℤ) where
  pub odd_none : pos 0 ≡ odd_up_to x 0
  unfolding zip_with
  odd_none = refl

  pub even_none : pos 0 ≡ even_up_to x 0
  unfolding zip_with
  even_none = refl

  pub odd_next : (i : ℕ) → odd_up_to x i +ℤ get_or x (2 * i) (pos 0) *ℤ get_or QMF_COEFFS i (pos 0) ≡ odd_up_to x (suc i)
  odd_next i = ap (λ (z : ℤ). odd_up_to x i +ℤ z *ℤ get_or QMF_COEFFS i (pos 0)) (sym (other_at x i)) ∙ total_next ◌*ℤ◌ zero-*ℤ *ℤ-zero (every_other x) QMF_COEFFS i

  pub even_next : (i : ℕ) → i < 12 → even_up_to x i +ℤ get_or x (2 * i + 1) (pos 0) *ℤ get_or QMF_COEFFS (11 - i) (pos 0) ≡ even_up_to x (suc i)
  even_next i h =
      (λ t. even_up_to x i +ℤ sym (next_at x i) t *ℤ sym (reverse_at i h) t) ∙ total_next ◌*ℤ◌ zero-*ℤ *ℤ-zero (every_other (drop 1 x)) (reverse QMF_COEFFS) i

  pub odd_all : odd_up_to x 12 ≡ odd_sum x
  odd_all = total_all ◌*ℤ◌ (every_other x) QMF_COEFFS

  pub even_all : even_up_to x 12 ≡ even_sum x
  even_all = total_all ◌*ℤ◌ (every_other (drop 1 x)) (reverse QMF_COEFFS)

  module _ (w : all_words x ≡ true) where
    pub odd_in : (i : ℕ) → In (minus 212402176) (pos 212402176) (odd_up_to x i)
    odd_in i = dot_in (take i (every_other x)) QMF_COEFFS refl (words_take i (every_other x) (words_other x w))

    pub even_in : (i : ℕ) → In (minus 212402176) (pos 212402176) (even_up_to x i)
    even_in i =
        let others = words_other (drop 1 x) (words_drop 1 x w) in
        dot_in (take i (every_other (drop 1 x))) (reverse QMF_COEFFS) refl (words_take i (every_other (drop 1 x)) others)
