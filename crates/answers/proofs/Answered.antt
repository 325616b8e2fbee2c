-- Number and count, and the outcome that has them.
use mathlib.Core.Bool.{Bool, true, false, cond, false≢true, true≢false}
use mathlib.Core.Path.{◌≡◌, refl, sym, ap}
use Prim.Native.Nat.{ℕ, zero, suc, ◌≤◌}
use native.Mathlib.Omega.{arith}
use lib.Dec.{eqb}
use borrow.Author.Tests.{eqb-true}
use Rattle.std.specs.Result.{is_ok}
use Rattle.std.specs.Prelude.{Result, Ok, Err}
use Rattle.answers.specs.declared.Refusal.{Refusal}
use Rattle.answers.specs.Numbers.{done}
use Rattle.answers.specs.Outcomes.{number_of, count_of, refusal_of, outcome}

-- the outcome with a number of the table has that number
pub number_is : (number count : ℕ) → number ≤ 8 → number_of (outcome number count) ≡ number
number_is zero count h = refl
number_is (suc zero) count h = refl
number_is (suc (suc zero)) count h = refl
number_is (suc (suc (suc zero))) count h = refl
number_is (suc (suc (suc (suc zero)))) count h = refl
number_is (suc (suc (suc (suc (suc zero))))) count h = refl
number_is (suc (suc (suc (suc (suc (suc zero)))))) count h = refl
number_is (suc (suc (suc (suc (suc (suc (suc zero))))))) count h = refl
number_is (suc (suc (suc (suc (suc (suc (suc (suc zero)))))))) count h = refl
number_is (suc (suc (suc (suc (suc (suc (suc (suc (suc n))))))))) count h = absurd (omega arith)

-- and its count where it is done
pub count_is : (number count : ℕ) → count_of (outcome number count) ≡ cond (eqb number done) count 0
count_is number count = by_case (eqb number done)
  where
    by_case : (b : Bool) → count_of (cond b (Ok count) (Err (refusal_of number))) ≡ cond b count 0
    by_case true = refl
    by_case false = refl

-- what an outcome says of the number and the count that it was made of
pub ok_is : (number count : ℕ) {n : ℕ} → outcome number count ≡ Ok n → (number ≡ done) × (n ≡ count)
ok_is number count {n} e = by_case (eqb number done) refl e
  where
    by_case : (b : Bool) → eqb number done ≡ b → cond b (Ok count) (Err (refusal_of number)) ≡ Ok n → (number ≡ done) × (n ≡ count)
    by_case true t e = (eqb-true number done t, sym (ap count_of e))
    by_case false t e = absurd (false≢true (ap is_ok e))

pub err_is : (number count : ℕ) {r : Refusal} → outcome number count ≡ Err r → number ≡ done → ⊥
err_is number count {r} e d = absurd (true≢false (ap is_ok (rw d at e)))
