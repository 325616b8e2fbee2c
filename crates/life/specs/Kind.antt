-- A kind of session, encoding or decoding, as far as its lives and histories need it: what its public calls answer and
-- leave in the buffers they are lent, and the run that the calls are held to. All are definitions; no code is named.
use Rattle.std.specs.Prelude.{ℕ, List}

-- a reply: the number of the answer, how many items were written, and the session handed back (docs/RULES.md, "Answers")
pub record Reply (S : Type 0) : Type 0 where
  pub number : ℕ
  pub count : ℕ
  pub session : S

pub record Kind : Type 1 where
  pub Session : Type 0
  -- what one call is given to code, what a history is a list of, and what is given out: samples and bytes, or bytes and samples
  pub Input : Type 0
  pub Item : Type 0
  pub Out : Type 0
  -- what an input adds to the history when it is accepted
  pub items : Input → List Item
  -- what an input is by its type: samples of 16 bits
  pub Typed : Input → Type 0
  -- a session is within all bounds (docs/RULES.md, "Bounds")
  pub InBounds : Session → Type 0
  -- the number that evenness, room and position give a coding call at a rate, after a history, of an input into a room
  pub number_at : ℕ → List Item → Input → ℕ → ℕ
  -- the public calls: begin takes a rate and a start; code an input and the output's room; write the room for a mark;
  -- restore a text. `code_out` and `write_out` are what code and write make of the contents of the output
  pub begin : ℕ → ℕ → Reply Session
  pub code : Session → Input → ℕ → Reply Session
  pub code_out : Session → Input → List Out → List Out
  pub write : Session → ℕ → Reply Session
  pub write_out : Session → List ℕ → List ℕ
  pub restore : Session → List ℕ → Reply Session
  -- one run of the codec's step over all the items: the session after it, and everything it gives out
  pub after : Session → List Item → Session
  pub output : Session → List Item → List Out
