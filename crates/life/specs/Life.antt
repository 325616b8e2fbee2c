-- Everything that can be done with sessions of one kind through its public calls, and the rate, the start and the history
-- that a session then has (docs/RULES.md, "Histories").
use Rattle.std.specs.Prelude.{ℕ, ◌<◌, ◌^◌, ◌≡◌, List, [], ◌++◌, length, take}
use Rattle.life.specs.Kind.{Kind}

-- the session that begin hands back, done or refused
abbrev pub fresh : (k : Kind) → ℕ → ℕ → k.Session
fresh k rate start = (k.begin rate start).session

-- what a coding call wrote: the first items of the output, as many as its count says
abbrev pub given_by : (k : Kind) → k.Session → k.Input → List k.Out → List k.Out
given_by k s i out = take (k.code s i (length out)).count (k.code_out s i out)

-- the bytes that mark writing wrote, likewise
abbrev pub mark_by : (k : Kind) → k.Session → List ℕ → List ℕ
mark_by k s out = take (k.write s (length out)).count (k.write_out s out)

-- `Call k s xs ys t`: one call on s hands back t. It took the items xs into the history and wrote the items ys.
pub data Call (k : Kind) (s : k.Session) : List k.Item → List k.Out → k.Session → Type 0 where
  -- a coding call that is done, of an input as long or as short as one likes, into any room
  coded : (i : k.Input) (out : List k.Out) → k.Typed i → (k.code s i (length out)).number ≡ 0
      → Call k s (k.items i) (given_by k s i out) (k.code s i (length out)).session
  -- a coding call that is refused, for whatever reason
  code_refused : (i : k.Input) (out : List k.Out) → ¬ ((k.code s i (length out)).number ≡ 0)
      → Call k s [] (given_by k s i out) (k.code s i (length out)).session
  -- mark writing, done or refused
  wrote : (out : List ℕ) → Call k s [] [] (k.write s (length out)).session
  -- a restore that is refused, of any text
  restore_refused : (text : List ℕ) → ¬ ((k.restore s text).number ≡ 0) → Call k s [] [] (k.restore s text).session

-- `Calls k s xs ys t`: calls one after the other lead from s to t. In all they took xs and wrote ys.
pub data Calls (k : Kind) (s : k.Session) : List k.Item → List k.Out → k.Session → Type 0 where
  -- no call
  still : Calls k s [] [] s
  -- some calls and then one more
  further : {xs xs' : List k.Item} {ys ys' : List k.Out} {t u : k.Session}
      → Calls k s xs ys t → Call k t xs' ys' u → Calls k s (xs ++ xs') (ys ++ ys') u

-- `Life k s rate start h`: s can be had by beginning, calls, and restores of marks that such sessions wrote; its rate, its
-- start and its history are then these.
pub data Life (k : Kind) : k.Session → ℕ → ℕ → List k.Item → Type 0 where
  -- begun, with any rate of 32 bits
  begun : (rate start : ℕ) → rate < 2 ^ 32 → (k.begin rate start).number ≡ 0 → Life k (fresh k rate start) rate start []
  -- begun with a start that is refused: the session handed back is a fresh one of start 0
  begin_refused : (rate start : ℕ) → rate < 2 ^ 32 → ¬ ((k.begin rate start).number ≡ 0) → Life k (fresh k rate start) rate 0 []
  -- one call more: the history grows by what it accepted, and rate and start stay
  called : {s t : k.Session} {rate start : ℕ} {h xs : List k.Item} {ys : List k.Out}
      → Life k s rate start h → Call k s xs ys t → Life k t rate start (h ++ xs)
  -- s restores the bytes of a mark that w wrote: rate, start and history become w's. That the restore is done is not assumed here.
  restored : {s w : k.Session} {rate start rate' start' : ℕ} {h h' : List k.Item}
      → Life k s rate start h → Life k w rate' start' h' → (out : List ℕ) → (k.write w (length out)).number ≡ 0
      → Life k (k.restore s (mark_by k w out)).session rate' start' h'

-- some session with this rate, start and history wrote the line
pub record StandsFor (k : Kind) (line : List ℕ) (rate start : ℕ) (h : List k.Item) : Type 0 where
  pub writer : k.Session
  pub lived : Life k writer rate start h
  pub out : List ℕ
  pub done : (k.write writer (length out)).number ≡ 0
  pub text : line ≡ mark_by k writer out

-- A worker: some session, whatever its own life, restores a line that stands for all before a piece, then takes the piece in
-- and writes ys, in as many calls as it likes.
pub record Worker (k : Kind) (rate start : ℕ) (before piece : List k.Item) (ys : List k.Out) : Type 0 where
  pub own : k.Session
  pub own_rate : ℕ
  pub own_start : ℕ
  pub own_history : List k.Item
  pub own_life : Life k own own_rate own_start own_history
  pub line : List ℕ
  pub stands : StandsFor k line rate start before
  pub end : k.Session
  pub work : Calls k (k.restore own line).session piece ys end

-- `Workers k rate start before rest ys`: after `before`, workers take the pieces of `rest`, and put one after the other they write ys
pub data Workers (k : Kind) (rate start : ℕ) : List k.Item → List k.Item → List k.Out → Type 0 where
  none : {before : List k.Item} → Workers k rate start before [] []
  next : {before piece rest : List k.Item} {ys zs : List k.Out}
      → Worker k rate start before piece ys → Workers k rate start (before ++ piece) rest zs
      → Workers k rate start before (piece ++ rest) (ys ++ zs)
