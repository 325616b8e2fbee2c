use Rattle.std.proofs.Common.{◌≡◌, refl, ap, ◌∙◌, Option, Some, None, List, [], ◌∷◌, ℕ, eqb, Bor}
use Rattle.std.specs.List.{slice_get}
use Rattle.std.specs.Option.{option_copied, option_eq}
use Rattle.text.specs.Number.{begins}
use Rattle.text.proofs.Tests.{some_is, none_some}
use Rattle.text.proofs.number.begins.Goals as goal

-- x is the first byte of l, where there is one
first_is : (l : List ℕ) (x : Option (Bor ℕ)) (z : Bor ℕ) → option_copied x ≡ slice_get l 0
    → option_eq (λ (u v : Bor ℕ). eqb u.now v.now) x (Some z) ≡ begins z.now l
unfolding begins
first_is [] None z e = refl
first_is [] (Some y) z e = absurd (cc)
first_is (y ∷ l) None z e = none_some e
first_is (y ∷ l) (Some x) z e = ap (λ (u : ℕ). eqb u z.now) (some_is e)

pub returns : goal.returns
returns c = c.eq.ensures ∙ first_is c.args.s.now c.first.result _ c.first.ensures.value
