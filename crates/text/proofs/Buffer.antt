-- Two lists stored one after the other are stored as one; and a list as long as the buffer is all of it.
use mathlib.Core.Path.{◌≡◌, sym, ap, ◌∙◌}
use mathlib.Core.List.{List, [], ◌∷◌, ◌++◌, append-nil}
use Prim.Native.Nat.{ℕ, suc, ◌+◌}
use native.Mathlib.Nat.{add-zero}
use native.Mathlib.Omega.{arith}
use lib.ListN.{length, set, drop_of_length-le}
use lib.Seq.{sets, sets-eq}

module _ {A : Type 0} where
  pub sets-append : (o : List A) (at : ℕ) (l m : List A) → sets o at (l ++ m) ≡ sets (sets o at l) (at + length l) m
  sets-append o at [] m = ap (λ (k : ℕ). sets o k m) (sym (add-zero at))
  sets-append o at (x ∷ l) m =
      sets-append (set o at x) (suc at) l m ∙ ap (λ (k : ℕ). sets (sets o at (x ∷ l)) k m) (omega arith)

  pub sets_all : (o l : List A) → length l ≡ length o → sets o 0 l ≡ l
  sets_all o l e = sets-eq l o 0 (omega (arith, e)) ∙ rw (drop_of_length-le o {i = 0 + length l} (omega (arith, e))) (append-nil l)
