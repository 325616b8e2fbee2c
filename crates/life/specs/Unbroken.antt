-- What is claimed of the lives of one kind of session: whatever was done with it, a session stands where one unbroken run over
-- its history stands.
use Rattle.std.specs.Prelude.{ℕ, ◌≤◌, ◌≡◌, List, [], ◌++◌}
use Rattle.life.specs.Kind.{Kind, Reply}
use Rattle.life.specs.Life.{fresh, Call, Calls, Life, StandsFor, Worker, Workers}

-- an answer that something is done, with nothing written
abbrev pub done_with : {S : Type 0} → S → Reply S
done_with s = record { number = 0; count = 0; session = s }

-- of one session with its rate, its start and its history
pub record Unbroken (k : Kind) (s : k.Session) (rate start : ℕ) (h : List k.Item) : Type 0 where
  -- it is the session of one run over the history from the beginning, number for number, position included
  pub session : s ≡ k.after (fresh k rate start) h
  -- whatever is called next writes what that run gives out next
  pub next : {xs : List k.Item} {ys : List k.Out} {t : k.Session} → Call k s xs ys t
      → k.output (fresh k rate start) (h ++ xs) ≡ k.output (fresh k rate start) h ++ ys
  -- it is within its bounds, and no call is refused with 2
  pub in_bounds : k.InBounds s
  pub code_not_2 : (i : k.Input) (room : ℕ) → ¬ ((k.code s i room).number ≡ 2)
  pub write_not_2 : (room : ℕ) → ¬ ((k.write s room).number ≡ 2)
  pub restore_not_2 : (text : List ℕ) → ¬ ((k.restore s text).number ≡ 2)
  -- a coding call is done where evenness, room and position allow it and refused where they do not; 512 bytes hold its mark
  pub answers : (i : k.Input) (room : ℕ) → (k.code s i room).number ≡ k.number_at rate h i room
  pub writes : (room : ℕ) → 512 ≤ room → (k.write s room).number ≡ 0
  -- a line that stands for a history makes it the session of one run over that history
  pub restores : {line : List ℕ} {rate' start' : ℕ} {h' : List k.Item} → StandsFor k line rate' start' h'
      → k.restore s line ≡ done_with (k.after (fresh k rate' start') h')

pub record Histories (k : Kind) : Type 0 where
  pub unbroken : {s : k.Session} {rate start : ℕ} {h : List k.Item} → Life k s rate start h → Unbroken k s rate start h
  -- a session that merely goes on is a worker for what comes next; one just begun, for the piece after nothing
  pub goes_on : {s end : k.Session} {rate start : ℕ} {h piece : List k.Item} {ys : List k.Out} → Life k s rate start h
      → Calls k s piece ys end → Worker k rate start h piece ys
  -- cut a recording at will and give each piece to a worker: what they write, put one after the other, is what one run gives out
  pub workers : {rate start : ℕ} {recording : List k.Item} {ys : List k.Out} → Workers k rate start [] recording ys
      → ys ≡ k.output (fresh k rate start) recording
