-- The machine's number beside the definition's. `E lo hi m z`: m, an expression over what is read of signed locals, is z, and z lies in
-- lo .. hi, a range within `i32`. There is one combinator for each form of code, so that the proof of a `returns` is a chain that mirrors
-- the code. Nothing is searched for, and each `tt` is a computed test of two literal bounds.
use Prim.Native.Nat.{ℕ, zero, suc, ◌*◌, ◌^◌, ◌≤◌, ◌<◌, max, zero-le}
use native.Mathlib.Omega.{arith}
use mathlib.Core.Bool.{Bool, true, ◌&&◌}
use mathlib.Core.List.{List, [], ◌∷◌}
use mathlib.Core.Path.{◌≡◌, ◌∙◌, refl, sym, ap, subst}
use lib.Dec.{T, leb, ltb, leb→le}
use lib.Ieee.Fits.{and_l, and_r}
use lib.IntN.{ℤ, pos, negsuc, neg_ℤ, ◌+ℤ◌, ◌-ℤ◌, ◌*ℤ◌, +ℤ_idl}
use lib.ListN.{get_or}
use lib.Signed.{mag, le_z, shr_z, ◌≤ℤ◌, ≤ℤ_refl}
use mir.Facts.{to_z-of_z}
use mir.Syntax.{w16, w32}
use mir.Val.{SFits, to_z, of_z}
use Rattle.std.proofs.lemmas.Int.{ints}
use Rattle.fixed.specs.Number.{minus, In, In16, Is}
use Rattle.fixed.proofs.Signed.{sz_in, in_add, in_neg, in_shr, in_mul, top, within}

-- both bounds are within i32
abbrev pub ok : ℤ → ℤ → Bool
ok lo hi = ltb (max (mag lo) (mag hi)) (2 ^ 31)

pub in_fits : {lo hi z : ℤ} → In lo hi z → T (ok lo hi) → SFits w32 z
in_fits {z = z} i t = record { sfits = (sz_in 31 i t).sz }

pub record E (lo hi m z : ℤ) : Type 0 where
  pub is : m ≡ z
  pub range : In lo hi z
  pub fits : SFits w32 m

make : {lo hi m z : ℤ} → m ≡ z → In lo hi z → T (ok lo hi) → E lo hi m z
make e i t = record { is = e; range = i; fits = subst (SFits w32) (sym e) (in_fits i t) }

-- what a local that holds m is read as
abbrev pub rd : ℤ → ℤ
rd m = to_z w32 (of_z w32 m)

pub read : {lo hi m z : ℤ} → E lo hi m z → rd m ≡ z
read e = to_z-of_z {w = w32} e.fits ∙ e.is

-- ---- leaves: a parameter or a field with a range, a literal, a parameter with no range
pub var : {lo hi z : ℤ} → In lo hi z → T (ok lo hi) → E lo hi z z
var i t = make refl i t

pub lit : (z : ℤ) → T (ok z z) → E z z z z
lit z t = make refl (record { low = ≤ℤ_refl z; high = ≤ℤ_refl z }) t

sfits_in : (z : ℤ) → mag z < 2 ^ 31 → In (minus 2147483648) (pos 2147483647) z
sfits_in (pos n) h = record { low = record { le = tt }; high = omega (arith, ints) }
sfits_in (negsuc n) h = record { low = omega (arith, ints); high = record { le = tt } }

pub any : {z : ℤ} → SFits w32 z → E (minus 2147483648) (pos 2147483647) z z
any {z} f = make refl (sfits_in z f.sfits) tt

-- ---- operators
module _ {a b m x : ℤ} (e : E a b m x) where
  pub neg : T (ok (neg_ℤ b) (neg_ℤ a)) → E (neg_ℤ b) (neg_ℤ a) (pos 0 -ℤ rd m) (neg_ℤ x)
  neg t = make (+ℤ_idl (neg_ℤ (rd m)) ∙ ap neg_ℤ (read e)) (in_neg e.range) t

  -- by 2 ^ k
  pub shr : (k : ℕ) → T (ok (shr_z a (2 ^ k)) (shr_z b (2 ^ k))) → E (shr_z a (2 ^ k)) (shr_z b (2 ^ k)) (shr_z (rd m) (2 ^ k)) (shr_z x (2 ^ k))
  shr k t = make (ap (λ (v : ℤ). shr_z v (2 ^ k)) (read e)) (in_shr k e.range) t

  -- a wider range
  pub wide : (c d : ℤ) → T (le_z c a) → T (le_z b d) → T (ok c d) → E c d m x
  wide c d s t u = make e.is (within c d e.range s t) u

  -- by another name
  pub to : {z : ℤ} → x ≡ z → E a b m z
  to p = record { is = e.is ∙ p; range = subst (In a b) p e.range; fits = e.fits }

  -- of what is equal to it
  pub same : {r : ℤ} → r ≡ m → E a b r x
  same p = record { is = p ∙ e.is; range = e.range; fits = subst (SFits w32) (sym p) e.fits }

  -- an argument, in what the callee ensures
  pub at1 {ℓ} : {A : Type ℓ} (f : ℤ → A) → f (rd m) ≡ f x
  at1 f = ap f (read e)

  module _ {c d n y : ℤ} (g : E c d n y) where
    pub add : T (ok (a +ℤ c) (b +ℤ d)) → E (a +ℤ c) (b +ℤ d) (rd m +ℤ rd n) (x +ℤ y)
    add t = make (λ i. read e i +ℤ read g i) (in_add e.range g.range) t

    pub sub : T (ok (a -ℤ d) (b -ℤ c)) → E (a -ℤ d) (b -ℤ c) (rd m -ℤ rd n) (x -ℤ y)
    sub t = make (λ i. read e i -ℤ read g i) (in_add e.range (in_neg g.range)) t

    pub mul : T (ok (neg_ℤ (pos (top a b * top c d))) (pos (top a b * top c d)))
        → E (neg_ℤ (pos (top a b * top c d))) (pos (top a b * top c d)) (rd m *ℤ rd n) (x *ℤ y)
    mul t = make (λ i. read e i *ℤ read g i) (in_mul e.range g.range) t

    pub at2 {ℓ} : {A : Type ℓ} (f : ℤ → ℤ → A) → f (rd m) (rd n) ≡ f x y
    at2 f = λ i. f (read e i) (read g i)

    -- what a clamp requires of its bounds
    pub le_asks : x ≤ℤ y → rd m ≤ℤ rd n
    le_asks h = rw (read e, read g) h

    pub at3 {ℓ} : {A : Type ℓ} {h k o z : ℤ} → E h k o z → (f : ℤ → ℤ → ℤ → A) → f (rd m) (rd n) (rd o) ≡ f x y z
    at3 w f = λ i. f (read e i) (read g i) (read w i)

-- ---- calls: what the callee ensures of r at the arguments as they are read, and what those are
pub call : {lo hi v r z : ℤ} → Is lo hi v r → v ≡ z → T (ok lo hi) → E lo hi r z
call a e t = make (a.is ∙ e) (subst (In _ _) (a.is ∙ e) a.range) t

-- what a callee requires of an argument
pub asks : {a b m x : ℤ} → E a b m x → (c d : ℤ) → T (le_z c a) → T (le_z b d) → In c d (rd m)
asks e c d s t = subst (In c d) (sym (read e)) (within c d e.range s t)

-- ---- the answer
pub gives : {lo hi m z : ℤ} → E lo hi m z → Is lo hi z (rd m)
gives e = record { is = read e; range = subst (In _ _) (sym (read e)) e.range }

-- ---- casts
pub in16_of : (z : ℤ) → SFits w16 z → In16 z
in16_of (pos n) h = record { low = record { le = tt }; high = omega (arith, ints, h.sfits) }
in16_of (negsuc n) h = record { low = omega (arith, ints, h.sfits); high = record { le = tt } }

pub fits16_of : {z : ℤ} → In16 z → SFits w16 z
fits16_of {z} i = record { sfits = (sz_in 15 i tt).sz }

-- `x as i32` of an `i16`
pub from16 : {z : ℤ} → SFits w16 z → E (minus 32768) (pos 32767) (to_z w16 (of_z w16 z)) z
from16 {z} f = make (to_z-of_z {w = w16} f) (in16_of z f) tt

-- `x as i16` of an `i32` in range
pub narrow_fits : {m z : ℤ} → E (minus 32768) (pos 32767) m z → SFits w16 (rd m)
narrow_fits e = subst (SFits w16) (sym (read e)) (fits16_of e.range)

pub narrow_is : {m z : ℤ} → E (minus 32768) (pos 32767) m z → to_z w16 (of_z w16 (rd m)) ≡ z
narrow_is e = to_z-of_z {w = w16} (narrow_fits e) ∙ read e

-- ---- a table whose entries a test has seen to lie in lo .. hi, or to be at most hi; 0 stands past its end
abbrev pub each_in : ℤ → ℤ → List ℤ → Bool
each_in lo hi [] = le_z lo (pos 0) && le_z (pos 0) hi
each_in lo hi (x ∷ xs) = (le_z lo x && le_z x hi) && each_in lo hi xs

both_in : (lo hi z : ℤ) → T (le_z lo z && le_z z hi) → In lo hi z
both_in lo hi z t = record { low = record { le = and_l (le_z lo z) (le_z z hi) t }; high = record { le = and_r (le_z lo z) (le_z z hi) t } }

pub table : (lo hi : ℤ) (xs : List ℤ) → T (each_in lo hi xs) → (i : ℕ) → In lo hi (get_or xs i (pos 0))
table lo hi [] t i = both_in lo hi (pos 0) t
table lo hi (x ∷ xs) t zero = both_in lo hi x (and_l (le_z lo x && le_z x hi) (each_in lo hi xs) t)
table lo hi (x ∷ xs) t (suc i) = table lo hi xs (and_r (le_z lo x && le_z x hi) (each_in lo hi xs) t) i

abbrev pub all_le : ℕ → List ℕ → Bool
all_le hi [] = true
all_le hi (x ∷ xs) = leb x hi && all_le hi xs

pub table_n : (hi : ℕ) (xs : List ℕ) → T (all_le hi xs) → (i : ℕ) → get_or xs i 0 ≤ hi
table_n hi [] t i = zero-le
table_n hi (x ∷ xs) t zero = leb→le x hi (and_l (leb x hi) (all_le hi xs) t)
table_n hi (x ∷ xs) t (suc i) = table_n hi xs (and_r (leb x hi) (all_le hi xs) t) i
