-- What is claimed of the C calls of one kind: whatever was called, a line stands for one unbroken run over its history.
use Rattle.std.specs.Prelude.{ℕ, ◌≤◌, ◌<◌, ◌^◌, ◌≡◌, List, [], ◌++◌, length, drop}
use Rattle.answers.specs.Numbers.{out_of_bounds}
use Rattle.g722.specs.Session.{position_most}
use Rattle.life.specs.Kind.{Kind}
use Rattle.life.specs.Life.{StandsFor}
use Rattle.calls.specs.Answers.{OneOf}
use Rattle.border.specs.Calls.{CCalls}
use Rattle.border.specs.Lines.{Bytes, items_of, run, given, number_at, Refused, Work, Line, Workers, Pieces, items_in}

-- of one line with its rate, its start and its history
pub record OneRun {k : Kind} (c : CCalls k) (line : List ℕ) (rate start : ℕ) (h : List k.Item) : Type 0 where
  -- a call is done where evenness, both rooms and the position allow it, and refused where they do not
  pub answers : (input out next : List ℕ) → c.number line input out next ≡ number_at c rate h input out next
  -- the number is 0, 4 or 5, or for encoders 3; so never 1, 2, 6, 7 or 8
  pub listed : (input out next : List ℕ) → OneOf c.coding_answers (c.number line input out next)
  -- a done call gives out what one run over the whole history gives out next, and keeps the rest of the output
  pub gives : (input out next : List ℕ) → Bytes input → c.number line input out next ≡ 0
      → run c rate start (h ++ items_of c input) ≡ run c rate start h ++ given c rate line input out next
  pub keeps : (input out next : List ℕ) → c.number line input out next ≡ 0
      → drop (c.count rate (length input)) (c.out line input out next) ≡ drop (c.count rate (length input)) out

pub record Lines {k : Kind} (c : CCalls k) : Type 0 where
  -- a caller's line is one that some session of that history wrote, so that C calls and Rattle sessions can both take it up
  pub stands : {line : List ℕ} {rate start : ℕ} {h : List k.Item} → Line c line rate start h → StandsFor k line rate start h
  -- all that the caller was given so far is one run over its history
  pub gave : {line : List ℕ} {rate start : ℕ} {h : List k.Item} (t : Line c line rate start h) → t.gave ≡ run c rate start h
  -- a line that stands for a history, a caller's or a session's, is of one run; and calls on it lead to a line that stands for more
  pub one_run : {line : List ℕ} {rate start : ℕ} {h : List k.Item} → StandsFor k line rate start h → OneRun c line rate start h
  pub leads : {line end : List ℕ} {rate start : ℕ} {h xs : List k.Item} {ys : List ℕ} → StandsFor k line rate start h
      → Work c rate line xs ys end → StandsFor k end rate start (h ++ xs)
  -- a history has one line, whoever wrote it
  pub same_line : {line line' : List ℕ} {rate start : ℕ} {h : List k.Item} → StandsFor k line rate start h
      → StandsFor k line' rate start h → line ≡ line'
  -- 512 bytes are enough to begin
  pub begins : (rate start : ℕ) (mark : List ℕ) → start ≤ 1 → rate < 2 ^ 32 → 512 ≤ length mark → c.begin_number rate start mark ≡ 0
  -- cut a recording at will: what the workers give out, put one after the other, is what one run gives out
  pub workers : {rate start : ℕ} {recording : List k.Item} {ys : List ℕ} → Workers c rate start [] recording ys
      → ys ≡ run c rate start recording
  -- and there are such workers, as far as the position goes
  pub cut_at_will : (rate start : ℕ) (pieces : List (List ℕ)) → start ≤ 1 → rate < 2 ^ 32 → Pieces c rate pieces
      → c.position rate (length (items_in c pieces)) ≤ position_most
      → Workers c rate start [] (items_in c pieces) (run c rate start (items_in c pieces))
  -- of any bytes as a line: a refused call leaves every buffer as it was, and none is refused with 2
  pub refused : {before after : List ℕ} → Refused c before after → after ≡ before
  pub begin_not_2 : (rate start : ℕ) (mark : List ℕ) → ¬ (c.begin_number rate start mark ≡ out_of_bounds)
  pub not_2 : (line input out next : List ℕ) → ¬ (c.number line input out next ≡ out_of_bounds)
