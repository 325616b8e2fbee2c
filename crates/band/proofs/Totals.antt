-- A total over the items of two lists: how it goes on with the next two, and where it ends.
use Prim.Native.Nat.{ℕ, zero, suc}
use mathlib.Core.List.{List, [], ◌∷◌, zip_with}
use mathlib.Core.Path.{◌≡◌, ◌∙◌, refl, sym, ap}
use lib.IntN.{ℤ, pos, ◌+ℤ◌, +ℤ_idl, +ℤ_idr, +ℤ_assoc}
use lib.ListN.{length, get_or, take}
use Rattle.band.specs.Block4.{total}

module _ (f : ℤ → ℤ → ℤ) where
  -- past an end stands 0, with which f gives 0
  pub total_next : ((y : ℤ) → f (pos 0) y ≡ pos 0) → ((x : ℤ) → f x (pos 0) ≡ pos 0) → (xs ys : List ℤ) (i : ℕ)
      → total (zip_with f (take i xs) ys) +ℤ f (get_or xs i (pos 0)) (get_or ys i (pos 0)) ≡ total (zip_with f (take (suc i) xs) ys)
  unfolding zip_with
  total_next l r [] ys zero = +ℤ_idl (f (pos 0) (get_or ys 0 (pos 0))) ∙ l (get_or ys 0 (pos 0))
  total_next l r [] ys (suc i) = +ℤ_idl (f (pos 0) (get_or ys (suc i) (pos 0))) ∙ l (get_or ys (suc i) (pos 0))
  total_next l r (x ∷ xs) [] zero = +ℤ_idl (f x (pos 0)) ∙ r x
  total_next l r (x ∷ xs) [] (suc i) = +ℤ_idl (f (get_or xs i (pos 0)) (pos 0)) ∙ r (get_or xs i (pos 0))
  total_next l r (x ∷ xs) (y ∷ ys) zero = +ℤ_idl (f x y) ∙ sym (+ℤ_idr (f x y))
  total_next l r (x ∷ xs) (y ∷ ys) (suc i) =
      +ℤ_assoc (f x y) (total (zip_with f (take i xs) ys)) (f (get_or xs i (pos 0)) (get_or ys i (pos 0)))
      ∙ ap (λ (z : ℤ). f x y +ℤ z) (total_next l r xs ys i)

  pub total_all : (xs ys : List ℤ) → total (zip_with f (take (length ys) xs) ys) ≡ total (zip_with f xs ys)
  unfolding zip_with
  total_all [] [] = refl
  total_all (x ∷ xs) [] = refl
  total_all [] (y ∷ ys) = refl
  total_all (x ∷ xs) (y ∷ ys) = ap (λ (z : ℤ). f x y +ℤ z) (total_all xs ys)
