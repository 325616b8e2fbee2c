use Rattle.std.proofs.Common.{rules, tests, arith, add_comm, ◌≡◌, ◌∙◌, ◌+◌, ◌≤◌, ◌<◌, ℕ, refl, sym, ap, Some, None}
use Rattle.std.proofs.lemmas.Iterator.{YieldsList-from_slice}
use Rattle.std.proofs.lemmas.Iterator.Search.{position_from_yields_List}
use Rattle.std.proofs.lemmas.List.Sums.{prefix_len-le-length}
use Rattle.std.specs.List.{position_or_len}
use lib.IntN.{ℤ}
use lib.Dec.{ltb}
use lib.ListN.{take, drop}
use mathlib.Core.Bool.{Bool, true, false, cond, not}
use Rattle.band.specs.Tables.{Q6}
use Rattle.band.specs.Quantise.{below}
use Rattle.band.proofs.First.{first_within, nowhere}
use Rattle.band.proofs.quantise.place_low.Goals.{After-map_or}
use Rattle.band.proofs.quantise.place_low.Goals as goal

-- what `position` counts from 0 on, and 29 where no level is above
abbrev counted : ℤ → ℤ → ℕ
counted w det = position_or_len (below w det) (take 29 (drop 1 Q6))

counted_most : (w det : ℤ) → counted w det ≤ 29
counted_most w det = prefix_len-le-length (λ (q : ℤ). not (below w det q)) (take 29 (drop 1 Q6))

at_most : {r n : ℕ} → r ≡ n + 1 → n ≤ 29 → r < 31
at_most e h = omega arith

found : (c : After-map_or) (n : ℕ) → c.position.result ≡ Some n → c.map_or.result ≡ n + 1
found c n e = search (rules, tests)

none : (c : After-map_or) → c.position.result ≡ None → c.map_or.result ≡ 30
none c e = search (rules, tests)

place : (c : After-map_or) → c.map_or.result ≡ counted c.args.w c.args.det + 1
place c = go (ltb (counted c.args.w c.args.det) 29) refl
  where
    n : ℕ
    n = counted c.args.w c.args.det

    at : c.position.result ≡ cond (ltb n 29) (Some n) None
    at = position_from_yields_List (below c.args.w c.args.det) _ _ c.position.result c.position.ensures.ran (YieldsList-from_slice _ c.iter.ensures.rest) (λ x b q k. search (rules, tests))

    go : (b : Bool) → ltb n 29 ≡ b → c.map_or.result ≡ n + 1
    go true e = found c n (at ∙ ap (λ (b : Bool). cond b (Some n) None) e)
    go false e = none c (at ∙ ap (λ (b : Bool). cond b (Some n) None) e) ∙ ap (λ (k : ℕ). k + 1) (sym (nowhere n 29 e (counted_most c.args.w c.args.det)))

pub returns : goal.returns
returns c =
    let is = place c ∙ add_comm _ 1 ∙ sym (first_within (below c.args.w c.args.det) Q6 29 1 refl) in
    (is, at_most (place c) (counted_most c.args.w c.args.det))
