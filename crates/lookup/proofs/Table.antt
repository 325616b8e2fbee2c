-- Tables by their rules: an entry read at its place, two rules that agree as far as their tables do, and a stored value.
use mathlib.Core.List.{List}
use mathlib.Core.Path.{◌≡◌, sym, ap, ◌∙◌}
use Prim.Native.Nat.{ℕ, zero, suc, ◌+◌, ◌<◌}
use native.Mathlib.Nat.{add-zero, zero-add, add-suc, suc-add, le_of_suc-le-suc, not-suc-le-zero}
use lib.ListN.{get_or}
use lib.IntN.{ℤ, pos}
use mir.Syntax.{w16}
use mir.Val.{to_z, of_z}
use Rattle.lookup.specs.Table.{from}

module _ {A : Type 0} where
  from_at : (f : ℕ → A) (d : A) (i n k : ℕ) → k < n → get_or (from f i n) k d ≡ f (i + k)
  from_at f d i zero k h = absurd (not-suc-le-zero h)
  from_at f d i (suc n) zero h = ap f (sym (add-zero i))
  from_at f d i (suc n) (suc k) h = from_at f d (suc i) n k (le_of_suc-le-suc h) ∙ ap f (suc-add i k ∙ sym (add-suc i k))

  from_0 : (f : ℕ → A) (d : A) (n k : ℕ) → k < n → get_or (from f 0 n) k d ≡ f k
  from_0 f d n k h = from_at f d 0 n k h ∙ ap f (zero-add k)

  pub entry : (f : ℕ → A) (d : A) (n : ℕ) {l : List A} → l ≡ from f 0 n → (k : ℕ) → k < n → get_or l k d ≡ f k
  entry f d n e k h = rw e (from_0 f d n k h)

  pub agree : (f g : ℕ → A) (n : ℕ) → from f 0 n ≡ from g 0 n → (k : ℕ) → k < n → f k ≡ g k
  agree f g n e k h = sym (from_0 f (f 0) n k h) ∙ entry g (f 0) n e k h

-- a value of a stored table, read at its place, is the rule's, and fits
pub stored : (f : ℕ → ℤ) {values : List ℤ} → values ≡ from f 0 256 → from (λ b. to_z w16 (of_z w16 (f b))) 0 256 ≡ from f 0 256
    → (b : ℕ) → b < 256 → to_z w16 (of_z w16 (get_or values b (pos 0))) ≡ f b
stored f e fits b h = ap (λ z. to_z w16 (of_z w16 z)) (entry f (pos 0) 256 e b h) ∙ agree (λ b. to_z w16 (of_z w16 (f b))) f 256 fits b h
