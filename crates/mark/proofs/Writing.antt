-- What writing a session's line comes to and leaves, case by case.
use Prim.Native.Nat.{ℕ, ◌+◌, ◌≤◌, ◌<◌}
use native.Mathlib.Omega.{arith}
use mathlib.Core.Path.{◌≡◌, ap}
use mathlib.Core.Bool.{true}
use mathlib.Core.List.{List, ◌++◌}
use lib.ListN.{length, drop}
use lib.Seq.{sets-eq}
use borrow.Author.Tests.{lt-ltb, le-ltb}
use Rattle.std.specs.Prelude.{Result, Ok, Err}
use Rattle.answers.specs.declared.Refusal.{Refusal}
use Rattle.answers.specs.declared.Refusal.TheVariants.{NoRoom}
use Rattle.answers.specs.Outcomes.{outcome}
use Rattle.g722.specs.declared.Session.{Session}
use Rattle.g722.specs.Session.{in_bounds}
use Rattle.mark.specs.Answer.{write_number}
use Rattle.mark.specs.Marks.{session_line, write_out}

module _ {K : Type 0} (letter : ℕ) (s : Session K) (out : List ℕ) where
  abbrev pub Leaves : Result ℕ Refusal → List ℕ → Type 0
  Leaves r p =
      (r ≡ outcome (write_number (in_bounds s) (session_line letter s) (length out)) (length (session_line letter s)))
      × (p ≡ write_out letter s out)

  pub full : in_bounds s ≡ true → length out < length (session_line letter s) → Leaves (Err NoRoom) out
  unfolding write_number write_out
  full e h = let t = lt-ltb (length out) (length (session_line letter s)) h in (rw (e, t), rw (e, t))

  pub written : {count : ℕ} {p : List ℕ} → in_bounds s ≡ true → count ≡ length (session_line letter s) → count ≤ length out
      → p ≡ session_line letter s ++ drop count out → Leaves (Ok count) p
  unfolding write_number write_out
  written e n h q =
      let line = session_line letter s in
      let t = le-ltb (length out) (length line) (omega (arith, n)) in
      let none : 0 + length line ≡ length line = omega arith in
      (rw (e, t) (ap Ok n), rw (e, t, sets-eq line out 0 (omega (arith, n)), none) (rw n at q))
