-- The search for the first place, beside the one of `position` over a list.
use Prim.Native.Nat.{ℕ, suc, ◌+◌, ◌<◌}
use native.Mathlib.Omega.{arith}
use mathlib.Core.Bool.{Bool, true, false}
use mathlib.Core.Path.{◌≡◌, ◌∙◌, ap, refl}
use Rattle.std.proofs.lemmas.Bool.Decides.{nat_tests}
use Rattle.std.proofs.lemmas.List.{get_or-take, get_or-drop}
use Rattle.std.proofs.Common.{sym, ◌≤◌, take, drop, ltb}
use Rattle.std.specs.List.{position_or_len}
use lib.IntN.{ℤ, pos}
use lib.ListN.{length, get_or}
use mathlib.Core.List.{List, [], ◌∷◌}
use Rattle.band.specs.Quantise.{first}

-- the search over a list, whose numbers f gives from i on
pub first_listed : (t : ℤ → Bool) (f : ℕ → ℤ) (xs : List ℤ) (i : ℕ) → ((j : ℕ) → j < length xs → f (i + j) ≡ get_or xs j (pos 0))
    → first (λ (k : ℕ). t (f k)) (length xs) i ≡ i + position_or_len t xs
unfolding first
first_listed t f [] i h = omega arith
first_listed t f (x ∷ xs) i h = go (t x) refl (first_listed t f xs (i + 1) (λ j l. ap f (omega arith) ∙ h (suc j) (omega (arith, l))))
  where
    here : t (f i) ≡ t x
    here = ap t (ap f (omega arith) ∙ h 0 (omega arith))

    go : (b : Bool) → t x ≡ b → first (λ (k : ℕ). t (f k)) (length xs) (i + 1) ≡ i + 1 + position_or_len t xs
        → first (λ (k : ℕ). t (f k)) (suc (length xs)) i ≡ i + position_or_len t (x ∷ xs)
    go true e later = rw (here ∙ e, e) (omega arith)
    go false e later = rw (here ∙ e, e) (omega (arith, later))

-- where a search of at most m ends that finds nothing
pub nowhere : (n m : ℕ) → ltb n m ≡ false → n ≤ m → n ≡ m
nowhere n m e h = grind (arith, nat_tests)

-- over n of the numbers of ys, from place i on
pub first_within : (t : ℤ → Bool) (ys : List ℤ) (n i : ℕ) → length (take n (drop i ys)) ≡ n
    → first (λ (k : ℕ). t (get_or ys k (pos 0))) n i ≡ i + position_or_len t (take n (drop i ys))
first_within t ys n i e =
    let at : (j : ℕ) → j < length (take n (drop i ys)) → get_or ys (i + j) (pos 0) ≡ get_or (take n (drop i ys)) j (pos 0) = λ j l. sym (get_or-take n (drop i ys) j (pos 0) (rw (sym e) l) ∙ get_or-drop i ys j (pos 0)) in
    (λ k. first (λ (k : ℕ). t (get_or ys k (pos 0))) (sym e k) i) ∙ first_listed t (λ (k : ℕ). get_or ys k (pos 0)) (take n (drop i ys)) i at
