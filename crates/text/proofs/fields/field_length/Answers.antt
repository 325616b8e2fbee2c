use Rattle.std.proofs.Common.{rules, ap, ◌∙◌, ℤ, ◌≤◌, length, arith, w64, SFits, to_z-of_z}
use Rattle.text.specs.Number.{decimal}
use Rattle.text.proofs.Signed.{decimal_le}
use Rattle.text.proofs.fields.field_length.Goals.{After-number_length}
use Rattle.text.proofs.fields.field_length.Goals as goal

short : (c : After-number_length) → c.number_length.result ≤ 20
short c =
    let f : SFits w64 c.args.v.now = search rules in
    omega (arith, c.number_length.ensures ∙ ap (λ (z : ℤ). length (decimal z)) (to_z-of_z f), decimal_le c.args.v.now f)

pub overflow_add-result : goal.overflow_add-result
overflow_add-result c = omega (arith, short c)

pub returns-clause-upper_bound : goal.returns-clause-upper_bound
returns-clause-upper_bound c = omega (arith, short c)
