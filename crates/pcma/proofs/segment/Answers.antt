-- That the leading zeros give the segment, and that it is at most 7, is computed at every v.
use Rattle.std.specs.Prelude.{leb}
use Rattle.std.specs.Int.Bits.{bit_or}
use Rattle.std.proofs.Common.{◌≡◌, true, ℕ, ◌+◌, ◌<◌, ◌≤◌, arith, refl}
use borrow.Author.Tests.{leb-true}
use Rattle.lookup.proofs.Table.{agree}
use Rattle.pcma.specs.Alaw.{ends, first}
use Rattle.pcma.proofs.segment.Goals as goal
use lib.Count.{count_leading_zeros}

zeros : (v : ℕ) → v < 4096 → count_leading_zeros 16 (bit_or v 31) + first ends v ≡ 11
unfolding ends count_leading_zeros
zeros = agree (λ v. count_leading_zeros 16 (bit_or v 31) + first ends v) (λ v. 11) 4096 refl

most : (v : ℕ) → v < 4096 → first ends v ≤ 7
unfolding ends
most v h = leb-true (first ends v) 7 (agree (λ v. leb (first ends v) 7) (λ v. true) 4096 refl v h)

pub overflow_sub-result : goal.overflow_sub-result
overflow_sub-result c = omega (arith, zeros c.args.v c.requires)

pub returns-clause-value : goal.returns-clause-value
returns-clause-value c = omega (arith, zeros c.args.v c.requires)

pub returns-clause-bound : goal.returns-clause-bound
returns-clause-bound c = omega (arith, most c.args.v c.requires, zeros c.args.v c.requires)
