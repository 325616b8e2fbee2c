-- The bytes of the fields, summed, are those of their text but the newline.
use Rattle.std.proofs.Common.{rules, ◌≡◌, refl, List, [], ◌∷◌, ℕ, ◌+◌, ◌*◌, ◌≤◌, ℤ, min, length, length-append, arith}
use Rattle.std.proofs.lemmas.List.Sums.{sum_by-cons}
use Rattle.std.specs.List.{sum_by}
use Rattle.std.proofs.lemmas.Iterator.{YieldsList-from_slice, YieldsList-from_map}
use Rattle.std.proofs.lemmas.Iterator.Consumers.{sum_by_from_yields_List}
use Rattle.text.specs.Number.{decimal}
use Rattle.text.specs.Fields.{fields_text}
use Rattle.text.proofs.fields.fields_length.Goals.{After-sum}
use Rattle.text.proofs.fields.fields_length.Goals as goal

abbrev bytes : ℤ → ℕ
bytes v = 1 + length (decimal v)

all_bytes : (vs : List ℤ) → sum_by bytes vs + 1 ≡ length (fields_text vs)
unfolding fields_text
all_bytes [] = refl
all_bytes (v ∷ vs) = omega (arith, sum_by-cons bytes v vs, length-append (decimal v) (fields_text vs), all_bytes vs)

summed : (c : After-sum) → c.sum.result ≡ sum_by bytes c.args.vs.now
summed c =
    sum_by_from_yields_List bytes c.args.vs.now c.map.result _ c.sum.ensures.ran
    (YieldsList-from_map _ bytes (YieldsList-from_slice _ (cc)) c.map.ensures.closure (λ x r q k. search rules))

-- the closure's results are 21 at most
abbrev capped : ℤ → ℕ
capped v = min (bytes v) 21

capped_le : (vs : List ℤ) → sum_by capped vs ≤ 21 * length vs
capped_le [] = omega arith
capped_le (v ∷ vs) = let b : capped v ≤ 21 = omega arith in omega (arith, sum_by-cons capped v vs, b, capped_le vs)

short : (c : After-sum) → c.sum.result ≤ 21 * length c.args.vs.now
short c =
    let e : c.sum.result ≡ sum_by capped c.args.vs.now =
    sum_by_from_yields_List capped c.args.vs.now c.map.result _ c.sum.ensures.ran
    (YieldsList-from_map _ capped (YieldsList-from_slice _ (cc)) c.map.ensures.closure (λ x r q k. search rules)) in
    omega (arith, e, capped_le c.args.vs.now)

pub overflow_add-result : goal.overflow_add-result
overflow_add-result c = omega (arith, short c, c.requires)

pub returns-clause-value : goal.returns-clause-value
returns-clause-value c = omega (arith, summed c, all_bytes c.args.vs.now)

pub returns-clause-upper_bound : goal.returns-clause-upper_bound
returns-clause-upper_bound c = omega (arith, short c)
