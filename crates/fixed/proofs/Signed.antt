-- Order, size and ranges of whole numbers, and what a clamp does.
use Prim.Native.Nat.{ℕ, suc, ◌+◌, ◌*◌, ◌/◌, ◌^◌, ◌≤◌, ◌<◌, max}
use native.Mathlib.Nat.{le_trans, lt_of_le_of_lt, le-max_left, le-max_right, mul-le-mul}
use native.Mathlib.Omega.{arith}
use mathlib.Core.Bool.{Bool, false, cond}
use mathlib.Core.Path.{◌≡◌, ◌∙◌, sym, ap, subst}
use lib.Dec.{T, leb→le, le→leb, ltb, ltb→lt}
use lib.IntN.{ℤ, pos, negsuc, neg_ℤ, nat_abs, ◌+ℤ◌, ◌-ℤ◌, ◌*ℤ◌}
use lib.Pow as Pow
use lib.Signed.{mag, lt_z, le_z, shr_z, ◌≤ℤ◌}
use Rattle.std.specs.Int.{int_max, int_min}
use Rattle.std.proofs.lemmas.Int.{ints, unsigned_abs-mul}
use Rattle.fixed.specs.Number.{In, Is, clamp_z}

pub ≤_trans : (a b c : ℤ) → a ≤ℤ b → b ≤ℤ c → a ≤ℤ c
≤_trans a b c h k = omega (arith, ints)

-- ---- size
mag_in : (lo hi z : ℤ) → In lo hi z → mag z ≤ max (mag lo) (mag hi)
mag_in lo (pos h) (pos n) i = le_trans (leb→le n h i.high.le) (le-max_right (mag lo) h)
mag_in lo (negsuc h) (pos n) i = absurd i.high.le
mag_in (pos l) hi (negsuc n) i = absurd i.low.le
mag_in (negsuc l) hi (negsuc n) i = le_trans (leb→le n l i.low.le) (le-max_left l (mag hi))

pub abs_in : (lo hi z : ℤ) → In lo hi z → nat_abs z ≤ max (nat_abs lo) (nat_abs hi)
abs_in lo (pos h) (pos n) i = le_trans (leb→le n h i.high.le) (le-max_right (nat_abs lo) h)
abs_in lo (negsuc h) (pos n) i = absurd i.high.le
abs_in (pos l) hi (negsuc n) i = absurd i.low.le
abs_in (negsuc l) hi (negsuc n) i = le_trans up (le-max_left (suc l) (nat_abs hi))
  where
    up : suc n ≤ suc l
    up = omega (arith, leb→le n l i.low.le)

pub abs_add : (x y : ℤ) → nat_abs (x +ℤ y) ≤ nat_abs x + nat_abs y
abs_add x y = grind (arith, ints)

-- -2^k ≤ z < 2^k
pub record Sz (k : ℕ) (z : ℤ) : Type 0 where
  pub sz : mag z < 2 ^ k

pub sz_in : (k : ℕ) {lo hi z : ℤ} → In lo hi z → T (ltb (max (mag lo) (mag hi)) (2 ^ k)) → Sz k z
sz_in k {lo} {hi} {z} i t = record { sz = lt_of_le_of_lt (mag_in lo hi z i) (ltb→lt (max (mag lo) (mag hi)) (2 ^ k) t) }

-- ---- ranges
pub in_add : {a b c d x y : ℤ} → In a b x → In c d y → In (a +ℤ c) (b +ℤ d) (x +ℤ y)
in_add i j = record { low = omega (arith, ints, i.low, j.low); high = omega (arith, ints, i.high, j.high) }

pub in_neg : {a b x : ℤ} → In a b x → In (neg_ℤ b) (neg_ℤ a) (neg_ℤ x)
in_neg i = record { low = omega (arith, ints, i.high); high = omega (arith, ints, i.low) }

shr_mono : (x y : ℤ) (k : ℕ) → x ≤ℤ y → shr_z x (2 ^ k) ≤ℤ shr_z y (2 ^ k)
shr_mono (pos a) (pos b) k h = record { le = le→leb (a / 2 ^ k) (b / 2 ^ k) (Pow.shr_mono k (leb→le a b h.le)) }
shr_mono (pos a) (negsuc b) k h = absurd h.le
shr_mono (negsuc a) (pos b) k h = record { le = tt }
shr_mono (negsuc a) (negsuc b) k h = record { le = le→leb (b / 2 ^ k) (a / 2 ^ k) (Pow.shr_mono k (leb→le b a h.le)) }

pub in_shr : {a b x : ℤ} (k : ℕ) → In a b x → In (shr_z a (2 ^ k)) (shr_z b (2 ^ k)) (shr_z x (2 ^ k))
in_shr {a} {b} {x} k i = record { low = shr_mono a x k i.low; high = shr_mono x b k i.high }

pub in_abs : (z : ℤ) (n : ℕ) → nat_abs z ≤ n → In (neg_ℤ (pos n)) (pos n) z
in_abs (pos a) n h = record { low = omega (arith, ints); high = omega (arith, ints) }
in_abs (negsuc a) n h = record { low = omega (arith, ints); high = record { le = tt } }

-- the greatest magnitude in a .. b
abbrev pub top : ℤ → ℤ → ℕ
top a b = max (nat_abs a) (nat_abs b)

product_most : {a b c d x y : ℤ} → In a b x → In c d y → nat_abs (x *ℤ y) ≤ top a b * top c d
product_most {a} {b} {c} {d} {x} {y} i j = rw (unsigned_abs-mul x y) (mul-le-mul (abs_in a b x i) (abs_in c d y j))

pub in_mul : {a b c d x y : ℤ} → In a b x → In c d y → In (neg_ℤ (pos (top a b * top c d))) (pos (top a b * top c d)) (x *ℤ y)
in_mul {a} {b} {c} {d} {x} {y} i j = in_abs (x *ℤ y) (top a b * top c d) (product_most i j)

pub within : {a b z : ℤ} (c d : ℤ) → In a b z → T (le_z c a) → T (le_z b d) → In c d z
within {a} {b} {z} c d i s t = record {
  low = ≤_trans c a z (record { le = s }) i.low;
  high = ≤_trans z b d i.high (record { le = t });
}

-- a number less another, from the goal down
pub in_from : (n : ℕ) (a b z : ℤ) → In (pos n -ℤ b) (pos n -ℤ a) z → In a b (pos n -ℤ z)
in_from n a b z i = record { low = omega (arith, ints, i.high); high = omega (arith, ints, i.low) }

pub neg_le : (a b z : ℤ) → In a b z → T (le_z (pos 0) a) → neg_ℤ z ≤ℤ z
neg_le a b z i t = let h : pos 0 ≤ℤ a = record { le = t } in omega (arith, ints, h, i.low)

-- ---- tests and clamps
pub nlt_of : (x y : ℤ) → y ≤ℤ x → lt_z x y ≡ false
nlt_of x y h = grind (arith, ints)

-- the arm that a definition takes
pub taken {ℓ} : {A : Type ℓ} {b t : Bool} (x y : A) → b ≡ t → cond t x y ≡ cond b x y
taken {A = A} x y e = ap (λ (v : Bool). cond {A = A} v x y) (sym e)

pub clamp_in : (lo hi v : ℤ) → lo ≤ℤ hi → In lo hi (clamp_z lo hi v)
unfolding clamp_z
clamp_in lo hi v h = record { low = grind (arith, ints); high = grind (arith, ints) }

-- what the library's clamp gives
clamp_is : (lo hi v : ℤ) → lo ≤ℤ hi → int_max lo (int_min v hi) ≡ clamp_z lo hi v
unfolding clamp_z
clamp_is lo hi v h = grind (arith, ints)

pub clamped : (lo hi v r : ℤ) → lo ≤ℤ hi → r ≡ int_max lo (int_min v hi) → Is lo hi (clamp_z lo hi v) r
clamped lo hi v r h e = let p = e ∙ clamp_is lo hi v h in record { is = p; range = subst (In lo hi) (sym p) (clamp_in lo hi v h) }

-- what lies in range already is not changed
pub clamp_id : (lo hi v : ℤ) → In lo hi v → v ≡ clamp_z lo hi v
unfolding clamp_z
clamp_id lo hi v i = let low = i.low in let high = i.high in grind (arith, ints)

pub in_clamp : (lo hi a b v : ℤ) → T (le_z lo a) → T (le_z b hi) → In a b v → In a b (clamp_z lo hi v)
in_clamp lo hi a b v s t i = subst (In a b) (clamp_id lo hi v (within lo hi i s t)) i
