-- Numbers of 16 bits beside the definition's. `H m z`: m, what is passed or stored as an `i16`, is z.
use Prim.Native.Nat.{ℕ, ◌<◌, ◌^◌}
use mathlib.Core.Bool.{Bool, cond}
use mathlib.Core.List.{List}
use mathlib.Core.Path.{◌≡◌, ◌∙◌, refl, sym, subst}
use lib.Dec.{T}
use lib.IntN.{ℤ, pos, neg_ℤ}
use lib.ListN.{get_or}
use lib.Signed.{mag, lt_z}
use mir.Facts.{to_z-of_z}
use mir.Syntax.{w16, w32}
use mir.Val.{SFits, to_z, of_z}
use Rattle.fixed.specs.Number.{minus, In, In16, Is, same_sign, scaled_by, signed_by}
use Rattle.fixed.proofs.Wide.{E, each_in, fits16_of, in16_of, narrow_fits, rd, read, table, var}

pub record H (m z : ℤ) : Type 0 where
  pub is : m ≡ z
  pub fits : SFits w16 m

-- what an `i16` that holds m is read as
abbrev pub rh : ℤ → ℤ
rh m = to_z w16 (of_z w16 m)

pub readh : {m z : ℤ} → H m z → rh m ≡ z
readh h = to_z-of_z {w = w16} h.fits ∙ h.is

-- a parameter, a field or an element
pub half : {z : ℤ} → SFits w16 z → H z z
half f = record { is = refl; fits = f }

-- what a call hands back: its equation at the arguments as they are read, and what those are
pub ans : {r v z : ℤ} → r ≡ v → v ≡ z → mag r < 2 ^ 15 → H r z
ans e g f = record { is = e ∙ g; fits = record { sfits = f } }

-- the same, as the answer of a function that hands it on
pub answer : {r v z : ℤ} → r ≡ v → v ≡ z → mag r < 2 ^ 15 → rh r ≡ z
answer e g f = readh (ans e g f)

-- `x as i32`
in_h : {m z : ℤ} → H m z → In16 z
in_h {m} {z} h = in16_of z (subst (SFits w16) h.is h.fits)

pub wide_h : {m z : ℤ} → H m z → E (minus 32768) (pos 32767) (rh m) z
wide_h h = record { is = readh h; range = in_h h; fits = subst (SFits w32) (sym (readh h)) (var (in_h h) tt).fits }

-- `x as i16` of an `i32` in range
pub thin : {m z : ℤ} → E (minus 32768) (pos 32767) m z → H (rd m) z
thin e = record { is = read e; fits = narrow_fits e }

-- the answer of a function that hands back an `i16` with a range
pub givesh : {lo hi m z : ℤ} → H m z → In lo hi z → Is lo hi z (rh m)
givesh {lo} {hi} h i = record { is = readh h; range = subst (In lo hi) (sym (readh h)) i }

-- ---- arguments, in what the callee ensures
module _ {ℓ} {A : Type ℓ} {m1 z1 : ℤ} (e1 : H m1 z1) where
  pub h1 : (f : ℤ → A) → f (rh m1) ≡ f z1
  h1 f = λ i. f (readh e1 i)

  module _ {m2 z2 : ℤ} (e2 : H m2 z2) where
    pub h2 : (f : ℤ → ℤ → A) → f (rh m1) (rh m2) ≡ f z1 z2
    h2 f = λ i. f (readh e1 i) (readh e2 i)

    module _ {m3 z3 m4 z4 : ℤ} (e3 : H m3 z3) (e4 : H m4 z4) where
      pub h4 : (f : ℤ → ℤ → ℤ → ℤ → A) → f (rh m1) (rh m2) (rh m3) (rh m4) ≡ f z1 z2 z3 z4
      h4 f = λ i. f (readh e1 i) (readh e2 i) (readh e3 i) (readh e4 i)

      pub h5 : {m5 z5 : ℤ} → H m5 z5 → (f : ℤ → ℤ → ℤ → ℤ → ℤ → A) → f (rh m1) (rh m2) (rh m3) (rh m4) (rh m5) ≡ f z1 z2 z3 z4 z5
      h5 e5 f = λ i. f (readh e1 i) (readh e2 i) (readh e3 i) (readh e4 i) (readh e5 i)

pub signs : {m x a b n w : ℤ} → H m x → E a b n w → signed_by (rh m) (rd n) ≡ signed_by x w
signs h e = λ i. signed_by (readh h i) (read e i)

pub signs2 : {m x n y a b k w : ℤ} → H m x → H n y → E a b k w
    → cond (same_sign (rh m) (rh n)) (rd k) (neg_ℤ (rd k)) ≡ cond (same_sign x y) w (neg_ℤ w)
signs2 g h e = λ i. cond (same_sign (readh g i) (readh h i)) (read e i) (neg_ℤ (read e i))

pub scales : {m x a b n q : ℤ} → H m x → E a b n q → scaled_by (rh m) (rd n) ≡ scaled_by x q
scales h e = λ i. scaled_by (readh h i) (read e i)

-- ---- what a test of a number's sign tells
pub negative : {z : ℤ} {b : Bool} → SFits w16 z → lt_z (rh z) (pos 0) ≡ b → lt_z z (pos 0) ≡ b
negative f e = sym (h1 (half f) (λ (v : ℤ). lt_z v (pos 0))) ∙ e

pub positive : {z : ℤ} {b : Bool} → SFits w16 z → lt_z (pos 0) (rh z) ≡ b → lt_z (pos 0) z ≡ b
positive f e = sym (h1 (half f) (λ (v : ℤ). lt_z (pos 0) v)) ∙ e

-- ---- an entry of a table that is ys, whose range a test has seen
read_of : {xs ys : List ℤ} → xs ≡ ys → {i j : ℕ} → i ≡ j → get_or xs i (pos 0) ≡ get_or ys j (pos 0)
read_of e g = λ t. get_or (e t) (g t) (pos 0)

module _ (ys : List ℤ) where
  pub entry16 : T (each_in (minus 32768) (pos 32767) ys) → {xs : List ℤ} → xs ≡ ys → (i : ℕ) → H (get_or xs i (pos 0)) (get_or ys i (pos 0))
  entry16 t e i =
      let p = read_of e {i = i} refl in
      record { is = p; fits = subst (SFits w16) (sym p) (fits16_of (table (minus 32768) (pos 32767) ys t i)) }
