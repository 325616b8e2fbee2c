-- That no size passes 15 bits is computed at every byte.
use Rattle.std.proofs.Common.{◌≡◌, ℕ, zero, suc, ◌+◌, ◌-◌, ◌*◌, ◌/◌, ◌%◌, ◌^◌, ◌<◌, ◌≤◌, refl, ap, ◌∙◌, arith}
use Rattle.lookup.proofs.Table.{agree}
use Rattle.pcma.specs.Alaw.{a_size, size_in}
use Rattle.pcma.proofs.size_of.Goals as goal

shifted : ℕ → ℕ
shifted a = (16 * (a % 16) + 264) * 2 ^ (a / 16 % 8 - 1)

small : (a : ℕ) → a < 256 → shifted a % 32768 ≡ shifted a
unfolding shifted
small = agree (λ a. shifted a % 32768) shifted 256 refl

is_size : (seg low : ℕ) → 2 ≤ seg → (16 * low + 264) * 2 ^ (seg - 1) ≡ size_in seg low
is_size zero low h = absurd (omega arith)
is_size (suc zero) low h = absurd (omega arith)
is_size (suc (suc k)) low h = ap (λ n. (16 * low + 264) * 2 ^ n) (omega arith)

pub returns-in-0 : goal.returns-in-0
unfolding a_size
returns-in-0 c = (rw c.in-0.is, omega arith)

pub returns-in-1 : goal.returns-in-1
unfolding a_size
returns-in-1 c = (rw c.in-1.is, omega arith)

pub returns-in-2-to-7 : goal.returns-in-2-to-7
unfolding a_size shifted
returns-in-2-to-7 c =
    let a = c.args.a in
    let s = small a (omega arith) in
    let whole : shifted a % 65536 ≡ shifted a = omega (arith, s) in
    (whole ∙ is_size (a / 16 % 8) (a % 16) (omega arith), omega (arith, s, whole))
