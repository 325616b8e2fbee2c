-- The lines that a C caller can have, and workers over the C calls. No session is named: a line is bytes.
use Rattle.std.specs.Prelude.{ℕ, ◌<◌, ◌^◌, ◌≡◌, false, cond, ◌||◌, List, [], ◌∷◌, ◌++◌, ltb, length, take, get_or}
use Rattle.answers.specs.Numbers.{done, odd_count, no_room, position_past_end}
use Rattle.g722.specs.Session.{position_most}
use Rattle.text.specs.Newline.{first_line}
use Rattle.life.specs.Kind.{Kind}
use Rattle.life.specs.Life.{fresh, StandsFor}
use Rattle.border.specs.Calls.{CCalls}

abbrev pub Bytes : List ℕ → Type 0
Bytes l = (i : ℕ) → get_or l i 0 < 256

module _ {k : Kind} (c : CCalls k) where
  -- what an input adds to the history
  abbrev pub items_of : List ℕ → List k.Item
  items_of input = k.items (c.input input)

  -- all that one run gives out over a history, from the beginning at a rate and a start, as bytes
  abbrev pub run : ℕ → ℕ → List k.Item → List ℕ
  run rate start h = c.as_bytes (k.output (fresh k rate start) h)

  -- the bytes that a done call gives out at a rate: the first of the output
  abbrev pub given : ℕ → List ℕ → List ℕ → List ℕ → List ℕ → List ℕ
  given rate line input out next = take (c.count rate (length input)) (c.out line input out next)

  -- the line that a done call leaves in the buffer for the new mark
  abbrev pub new_line : List ℕ → List ℕ → List ℕ → List ℕ → List ℕ
  new_line line input out next = first_line (c.mark line input out next)

  -- the number that evenness, both rooms and the position give: at a rate, after a history
  unfoldable pub number_at : ℕ → List k.Item → List ℕ → List ℕ → List ℕ → ℕ
  number_at rate h input out next =
      cond (c.odd rate (length input)) odd_count
      (cond (ltb (length out) (c.count rate (length input)) || ltb (length next) 512) no_room
      (cond (ltb position_most (c.position rate (length (h ++ items_of input)))) position_past_end
      done))

-- `Refused c before after`: a call that was refused, of whatever bytes, was lent a buffer with `before` in it and left `after`
pub data Refused {k : Kind} (c : CCalls k) : List ℕ → List ℕ → Type 0 where
  begin : (rate start : ℕ) (mark : List ℕ) → ¬ (c.begin_number rate start mark ≡ 0) → Refused c mark (c.begin_mark rate start mark)
  output : (line input out next : List ℕ) → ¬ (c.number line input out next ≡ 0) → Refused c out (c.out line input out next)
  new_mark : (line input out next : List ℕ) → ¬ (c.number line input out next ≡ 0) → Refused c next (c.mark line input out next)

-- `Work c rate line xs ys end`: calls one after the other, from the line to the line `end`. In all they took xs and gave out ys. A call
-- only reads the line that it is made on, so that line serves again where the call is refused.
pub data Work {k : Kind} (c : CCalls k) (rate : ℕ) (line : List ℕ) : List k.Item → List ℕ → List ℕ → Type 0 where
  still : Work c rate line [] [] line
  -- a done call, of an input as long or as short as one likes, on the line of the calls before it
  coded : {xs : List k.Item} {ys at : List ℕ} → Work c rate line xs ys at
      → (input out next : List ℕ) → Bytes input → c.number at input out next ≡ 0
      → Work c rate line (xs ++ items_of c input) (ys ++ given c rate at input out next) (new_line c at input out next)
  -- a refused call, on whatever line and for whatever reason: a buffer that was lent to it still holds the line that it held
  refused : {xs : List k.Item} {ys before after : List ℕ} → Work c rate line xs ys (first_line before) → Refused c before after
      → Work c rate line xs ys (first_line after)

-- `Line c line rate start h`: a caller has the line by beginning at the rate and the start, which was done, and by calls after that; they took h
pub record Line {k : Kind} (c : CCalls k) (line : List ℕ) (rate start : ℕ) (h : List k.Item) : Type 0 where
  pub rate_fits : rate < 2 ^ 32
  pub mark : List ℕ
  pub begun : c.begin_number rate start mark ≡ 0
  pub gave : List ℕ
  pub work : Work c rate (first_line (c.begin_mark rate start mark)) h gave line

-- `Workers c rate start before rest ys`: after `before`, each worker has a line that stands for all before its piece (the first has a
-- beginning's, the others whoever's), and its calls take the piece in; put one after the other they give out ys
pub data Workers {k : Kind} (c : CCalls k) (rate start : ℕ) : List k.Item → List k.Item → List ℕ → Type 0 where
  none : {before : List k.Item} → Workers c rate start before [] []
  then : {line end : List ℕ} {before piece rest : List k.Item} {ys zs : List ℕ}
      → StandsFor k line rate start before → Work c rate line piece ys end → Workers c rate start (before ++ piece) rest zs
      → Workers c rate start before (piece ++ rest) (ys ++ zs)

module _ {k : Kind} (c : CCalls k) where
  -- a recording cut at will, but not inside a sample or, where two samples go into a byte, between them
  abbrev pub Pieces : ℕ → List (List ℕ) → Type 0
  Pieces rate [] = Unit {0}
  Pieces rate (p ∷ ps) = Bytes p × ((c.odd rate (length p) ≡ false) × Pieces rate ps)

  -- what the pieces hold, one after the other
  abbrev pub items_in : List (List ℕ) → List k.Item
  items_in [] = []
  items_in (p ∷ ps) = items_of c p ++ items_in ps
