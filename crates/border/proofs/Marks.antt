-- The bytes that mark writing wrote, where it is done, are the session's line.
use Prim.Native.Nat.{ℕ}
use mathlib.Core.Path.{◌≡◌, sym, ◌∙◌}
use mathlib.Core.List.{List}
use lib.ListN.{length, take}
use Rattle.answers.specs.Outcomes.{number_of, count_of}
use Rattle.g722.specs.declared.Session.{Session}
use Rattle.g722.specs.Session.{in_bounds}
use Rattle.mark.specs.Marks.{session_line, write_answer, write_out}
use Rattle.mark.proofs.Round.{written_line}
use Rattle.mark.proofs.Marks.{wrote_number}

pub mark_is : {K : Type 0} (letter : ℕ) (s : Session K) (out : List ℕ) → number_of (write_answer letter s (length out)).outcome ≡ 0
    → take (count_of (write_answer letter s (length out)).outcome) (write_out letter s out) ≡ session_line letter s
unfolding write_answer write_out
mark_is letter s out e =
    let line = session_line letter s in
    let z = sym (wrote_number letter s (length out)) ∙ e in
    rw z (rw z at (written_line (in_bounds s) line out z))
