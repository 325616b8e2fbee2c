-- The digits of a number: the two equations that a reader expects, how many there are, and induction from a number to
-- the number without its last digit. Nothing after `digits_last` looks at the count of steps in the definition.
use mathlib.Core.Path.{◌≡◌, refl, sym, ap, ◌∙◌}
use mathlib.Core.Bool.{false}
use mathlib.Core.List.{List, [], ◌∷◌, ◌++◌, append_assoc}
use Prim.Native.Nat.{ℕ, zero, suc, ◌+◌, ◌*◌, ◌/◌, ◌%◌, ◌^◌, ◌≤◌, ◌<◌}
use native.Mathlib.Nat.{pow-suc}
use native.Mathlib.Omega.{arith}
use lib.ListN.{length, length-append}
use borrow.Author.Tests.{lt-ltb, le-ltb, ne_eqb}
use Rattle.text.specs.Ascii.{MINUS, ZERO}
use Rattle.text.specs.Number.{digits_in, digits, begins}
use Rattle.text.proofs.Tests.{Below, small, large, below}

-- ---- the equations

in_one : (f n : ℕ) → n < 10 → digits_in f n ≡ (ZERO + n) ∷ []
unfolding digits_in
in_one zero n h = refl
in_one (suc f) n h = rw (lt-ltb n 10 h)

in_more : (f n : ℕ) → 10 ≤ n → digits_in (suc f) n ≡ digits_in f (n / 10) ++ (ZERO + n % 10) ∷ []
unfolding digits_in
in_more f n h = rw (le-ltb n 10 h)

in_same : (f g n : ℕ) → n ≤ f → n ≤ g → digits_in f n ≡ digits_in g n
in_same zero g n hf hg = in_one zero n (omega arith) ∙ sym (in_one g n (omega arith))
in_same (suc f) zero n hf hg = in_one (suc f) n (omega arith) ∙ sym (in_one zero n (omega arith))
in_same (suc f) (suc g) n hf hg = go (below n 10) (in_same f g (n / 10) (omega arith) (omega arith))
  where
    go : Below n 10 → digits_in f (n / 10) ≡ digits_in g (n / 10) → digits_in (suc f) n ≡ digits_in (suc g) n
    go (small h) e = in_one (suc f) n h ∙ sym (in_one (suc g) n h)
    go (large h) e = in_more f n h ∙ ap (λ (l : List ℕ). l ++ (ZERO + n % 10) ∷ []) e ∙ sym (in_more g n h)

pub digits_one : (n : ℕ) → n < 10 → digits n ≡ (ZERO + n) ∷ []
unfolding digits
digits_one n h = in_one n n h

pub digits_last : (n : ℕ) → 10 ≤ n → digits n ≡ digits (n / 10) ++ (ZERO + n % 10) ∷ []
unfolding digits
digits_last zero h = absurd (omega arith)
digits_last (suc m) h =
    in_more m (suc m) h
    ∙ ap (λ (l : List ℕ). l ++ (ZERO + suc m % 10) ∷ []) (in_same m (suc m / 10) (suc m / 10) (omega arith) (omega arith))

pub by_digits : (P : ℕ → Type 0) → ((n : ℕ) → n < 10 → P n) → ((n : ℕ) → 10 ≤ n → P (n / 10) → P n) → (n : ℕ) → P n
by_digits P one more n = go n n (omega arith)
  where
    go : (f n : ℕ) → n ≤ f → P n
    go zero n h = one n (omega arith)
    go (suc f) n h = split (below n 10) (go f (n / 10) (omega arith))
      where
        split : Below n 10 → P (n / 10) → P n
        split (small k) p = one n k
        split (large k) p = more n k p

-- ---- how many they are

pub count_one : (n : ℕ) → n < 10 → length (digits n) ≡ 1
count_one n h = rw (digits_one n h)

pub count_more : (n : ℕ) → 10 ≤ n → length (digits n) ≡ length (digits (n / 10)) + 1
count_more n h = ap length (digits_last n h) ∙ length-append (digits (n / 10)) ((ZERO + n % 10) ∷ [])

pub count_some : (n : ℕ) → 1 ≤ length (digits n)
count_some = by_digits (λ n. 1 ≤ length (digits n)) (λ n h. omega (arith, count_one n h)) (λ n h p. omega (arith, count_more n h))

-- at most k digits, k at least 1, is below 10 ^ k
pub count_le : (k n : ℕ) → n < 10 ^ suc k → length (digits n) ≤ suc k
count_le zero n h = omega (arith, count_one n h)
count_le (suc k) n h = go (below n 10) (count_le k (n / 10) (omega (arith, pow-suc 10 (suc k))))
  where
    go : Below n 10 → length (digits (n / 10)) ≤ suc k → length (digits n) ≤ suc (suc k)
    go (small s) r = omega (arith, count_one n s)
    go (large g) r = omega (arith, count_more n g)

pub below_pow : (k n : ℕ) → length (digits n) ≤ suc k → n < 10 ^ suc k
below_pow zero n h = go (below n 10)
  where
    go : Below n 10 → n < 10
    go (small s) = s
    go (large g) = absurd (omega (arith, count_more n g, count_some (n / 10)))
below_pow (suc k) n h = let r = below_pow k (n / 10) (go (below n 10)) in omega (arith, r, pow-suc 10 (suc k))
  where
    go : Below n 10 → length (digits (n / 10)) ≤ suc k
    go (small s) = omega (arith, count_one (n / 10) (omega arith))
    go (large g) = omega (arith, count_more n g)

-- k + 1 digits from 10 ^ k on
pub count_is : (k n : ℕ) → 10 ^ k ≤ n → n < 10 * 10 ^ k → length (digits n) ≡ k + 1
count_is k n low high = let most = count_le k n (omega (arith, high, pow-suc 10 k)) in omega (arith, most, least k low)
  where
    least : (k : ℕ) → 10 ^ k ≤ n → k + 1 ≤ length (digits n)
    least zero p = count_some n
    least (suc j) p = go (below (length (digits n)) (suc (suc j)))
      where
        go : Below (length (digits n)) (suc (suc j)) → suc j + 1 ≤ length (digits n)
        go (small h) = absurd (omega (arith, p, below_pow j n (omega (arith, h))))
        go (large h) = omega (arith, h)

-- ---- what they begin with: with no minus, and with a zero only where the number is 0

-- what follows the digits but the last
pub digits_then : (n : ℕ) (t : List ℕ) → 10 ≤ n → digits n ++ t ≡ digits (n / 10) ++ (ZERO + n % 10) ∷ t
digits_then n t h =
    ap (λ (l : List ℕ). l ++ t) (digits_last n h) ∙ append_assoc (digits (n / 10)) ((ZERO + n % 10) ∷ []) t

pub no_zero : (n : ℕ) (t : List ℕ) → 0 < n → begins ZERO (digits n ++ t) ≡ false
unfolding begins
no_zero =
    by_digits (λ n. (t : List ℕ) → 0 < n → begins ZERO (digits n ++ t) ≡ false)
    (λ n h t p. rw (digits_one n h) (ne_eqb (ZERO + n) ZERO (λ e. omega (arith, e))))
    (λ n h r t p. rw (digits_then n t h) (r ((ZERO + n % 10) ∷ t) (omega arith)))

pub no_minus : (n : ℕ) (t : List ℕ) → begins MINUS (digits n ++ t) ≡ false
unfolding begins
no_minus =
    by_digits (λ n. (t : List ℕ) → begins MINUS (digits n ++ t) ≡ false)
    (λ n h t. rw (digits_one n h) (ne_eqb (ZERO + n) MINUS (λ e. omega (arith, e))))
    (λ n h r t. rw (digits_then n t h) (r ((ZERO + n % 10) ∷ t)))
