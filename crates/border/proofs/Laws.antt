-- What the C calls of a kind owe for their lines to be of one run.
use Prim.Native.Nat.{ℕ, ◌+◌, ◌≤◌}
use mathlib.Core.Path.{◌≡◌}
use mathlib.Core.Bool.{Bool, cond}
use mathlib.Core.List.{List, [], ◌++◌}
use lib.ListN.{length}
use Rattle.answers.specs.Numbers.{done, out_of_bounds, odd_count, no_room, position_past_end}
use Rattle.answers.specs.Lent.{leaves}
use Rattle.text.specs.Newline.{OneLine}
use Rattle.life.specs.Kind.{Kind}
use Rattle.life.specs.Life.{fresh, mark_by}
use Rattle.life.specs.Unbroken.{done_with}
use Rattle.calls.specs.G722.{call_number, begin_call_number}
use Rattle.calls.specs.Answers.{OneOf}
use Rattle.border.specs.Calls.{CCalls}
use Rattle.border.specs.Lines.{Bytes, items_of, number_at}

pub record CallLaws {k : Kind} (c : CCalls k) : Type 0 where
  -- items and bytes; `blank` is any item that can be given out
  pub typed : (input : List ℕ) → Bytes input → k.Typed (c.input input)
  pub bytes_none : c.as_bytes [] ≡ []
  pub bytes_cut : (a b : List k.Out) → c.as_bytes (a ++ b) ≡ c.as_bytes a ++ c.as_bytes b
  pub blank : k.Out
  pub position_cut : (rate m n : ℕ) → c.position rate (m + n) ≡ c.position rate m + c.position rate n
  pub listed : (rate n : ℕ) (short past : Bool)
      → OneOf c.coding_answers (cond (c.odd rate n) odd_count (cond short no_room (cond past position_past_end done)))
  -- the line of a session is its mark, has one newline, its last byte, and at most 512 bytes
  pub line_of : k.Session → List ℕ
  pub mark_is : (s : k.Session) (out : List ℕ) → (k.write s (length out)).number ≡ 0 → mark_by k s out ≡ line_of s
  pub one_line : (s : k.Session) → OneLine (line_of s)
  pub line_short : (s : k.Session) → k.InBounds s → length (line_of s) ≤ 512
  -- beginning
  pub starts : (rate start : ℕ) → start ≤ 1 → (k.begin rate start).number ≡ 0
  pub begin_number_lem : (rate start : ℕ) (mark : List ℕ)
      → c.begin_number rate start mark ≡ begin_call_number (k.begin rate start).number (line_of (fresh k rate start)) mark
  pub begin_mark_lem : (rate start : ℕ) (mark : List ℕ)
      → c.begin_mark rate start mark ≡ leaves (c.begin_number rate start mark) (line_of (fresh k rate start)) mark
  -- coding: half a sample, and the items that fit an output; then by the session that the line is restored to
  pub half : List ℕ → Bool
  pub room : ℕ → ℕ
  pub number_at_lem : (rate : ℕ) (h : List k.Item) (input out next : List ℕ)
      → call_number 0 (cond (half input) odd_count (k.number_at rate h (c.input input) (room (length out)))) (length next) ≡ number_at c rate h input out next
  pub code_number : (line input out next : List ℕ) (rate start : ℕ) (h : List k.Item)
      → let s = k.after (fresh k rate start) h in k.restore (fresh k 16000 0) line ≡ done_with s → k.InBounds s
      → c.number line input out next
      ≡ call_number 0 (cond (half input) odd_count (k.number_at rate h (c.input input) (room (length out)))) (length next)
  pub code_output : (line input out next : List ℕ) → c.out line input out next
      ≡ leaves (c.number line input out next) (c.as_bytes (k.output (k.restore (fresh k 16000 0) line).session (items_of c input))) out
  pub code_mark : (line input out next : List ℕ) → c.mark line input out next
      ≡ leaves (c.number line input out next) (line_of (k.after (k.restore (fresh k 16000 0) line).session (items_of c input))) next
  pub counted : (rate start : ℕ) (h : List k.Item) (input : List ℕ)
      → length (c.as_bytes (k.output (k.after (fresh k rate start) h) (items_of c input))) ≡ c.count rate (length input)
  -- of any bytes as a line
  pub begin_not_2 : (rate start : ℕ) (mark : List ℕ) → ¬ (c.begin_number rate start mark ≡ out_of_bounds)
  pub not_2 : (line input out next : List ℕ) → ¬ (c.number line input out next ≡ out_of_bounds)
