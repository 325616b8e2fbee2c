-- The number of a C call on a line that is restored: the coder's tests and the call's own, in one order.
use Prim.Native.Nat.{ℕ, ◌*◌, ◌/◌, ◌≤◌}
use native.Mathlib.Omega.{arith}
use mathlib.Core.Path.{◌≡◌, refl}
use mathlib.Core.Bool.{Bool, true, false, cond, ◌||◌}
use lib.Dec.{eqb, ltb}
use borrow.Author.Tests.{ltb-true, ltb-false, lt-ltb, le-ltb}
use Rattle.answers.specs.Numbers.{done, odd_count, no_room, position_past_end}
use Rattle.answers.specs.Outcomes.{number_of, outcome}
use Rattle.g722.specs.Session.{begin_number}
use Rattle.text.proofs.Tests.{Test, yes!, no!, test}
use Rattle.calls.specs.G722.{call_number}

pub tests_in_order : (half odd short past : Bool) (room : ℕ)
    → call_number 0 (cond half odd_count (cond odd odd_count (cond short no_room (cond past position_past_end done)))) room
    ≡ cond (half || odd) odd_count (cond (short || ltb room 512) no_room (cond past position_past_end done))
unfolding call_number
tests_in_order half odd short past room = go half odd short (ltb room 512) past
  where
    coded : Bool → Bool → Bool → Bool → ℕ
    coded half odd short past = cond half odd_count (cond odd odd_count (cond short no_room (cond past position_past_end done)))

    go : (half odd short small past : Bool)
        → cond (eqb (coded half odd short past) odd_count) odd_count (cond small no_room (coded half odd short past))
        ≡ cond (half || odd) odd_count (cond (short || small) no_room (cond past position_past_end done))
    go true odd short small past = refl
    go false true short small past = refl
    go false false true true past = refl
    go false false true false past = refl
    go false false false true true = refl
    go false false false true false = refl
    go false false false false true = refl
    go false false false false false = refl

-- room counted in samples and in bytes
pub two_bytes_each : (room n : ℕ) → ltb (room / 2) n ≡ ltb room (2 * n)
two_bytes_each room n = go (test (ltb (room / 2) n))
  where
    go : Test (ltb (room / 2) n) → ltb (room / 2) n ≡ ltb room (2 * n)
    go (yes! e) = let h = ltb-true (room / 2) n e in rw (e, lt-ltb room (2 * n) (omega arith))
    go (no! e) = let h = ltb-false (room / 2) n e in rw (e, le-ltb room (2 * n) (omega arith))

pub start_begins : (start : ℕ) → start ≤ 1 → number_of (outcome (begin_number start) 0) ≡ done
unfolding begin_number
start_begins start h = rw (le-ltb 1 start h)
