-- What a kind of session owes for its histories to be unbroken: what each call leaves, and that the run can be cut.
use Prim.Native.Nat.{ℕ, ◌≤◌, ◌<◌, ◌^◌}
use mathlib.Core.Path.{◌≡◌}
use mathlib.Core.List.{List, [], ◌++◌}
use lib.ListN.{length}
use Rattle.life.specs.Kind.{Kind}
use Rattle.life.specs.Life.{fresh, given_by, mark_by}
use Rattle.life.specs.Unbroken.{done_with}

pub record Laws (k : Kind) : Type 1 where
  -- after these items the run can be cut: an even count, where two go into a byte
  pub Whole : k.Session → List k.Item → Type 0
  -- begin
  pub begin_in_bounds : (rate start : ℕ) → rate < 2 ^ 32 → k.InBounds (fresh k rate start)
  pub begin_same : (rate start : ℕ) → ¬ ((k.begin rate start).number ≡ 0) → fresh k rate start ≡ fresh k rate 0
  -- code
  pub code_whole : (s : k.Session) (i : k.Input) (room : ℕ) → (k.code s i room).number ≡ 0 → Whole s (k.items i)
  pub code_after : (s : k.Session) (i : k.Input) (room : ℕ) → (k.code s i room).number ≡ 0
      → (k.code s i room).session ≡ k.after s (k.items i)
  pub code_gives : (s : k.Session) (i : k.Input) (out : List k.Out) → (k.code s i (length out)).number ≡ 0
      → given_by k s i out ≡ k.output s (k.items i)
  pub code_in_bounds : (s : k.Session) (i : k.Input) (room : ℕ) → k.InBounds s → k.Typed i → (k.code s i room).number ≡ 0
      → k.InBounds (k.code s i room).session
  pub refused_same : (s : k.Session) (i : k.Input) (room : ℕ) → ¬ ((k.code s i room).number ≡ 0) → (k.code s i room).session ≡ s
  pub refused_gives : (s : k.Session) (i : k.Input) (out : List k.Out) → ¬ ((k.code s i (length out)).number ≡ 0)
      → given_by k s i out ≡ []
  pub code_not_2 : (s : k.Session) (i : k.Input) (room : ℕ) → k.InBounds s → ¬ ((k.code s i room).number ≡ 2)
  pub code_answers : (rate start : ℕ) (h : List k.Item) (i : k.Input) (room : ℕ) → k.InBounds (k.after (fresh k rate start) h)
      → (k.code (k.after (fresh k rate start) h) i room).number ≡ k.number_at rate h i room
  -- write
  pub write_same : (s : k.Session) (room : ℕ) → (k.write s room).session ≡ s
  pub write_not_2 : (s : k.Session) (room : ℕ) → k.InBounds s → ¬ ((k.write s room).number ≡ 2)
  pub writes : (s : k.Session) (room : ℕ) → k.InBounds s → 512 ≤ room → (k.write s room).number ≡ 0
  -- restore
  pub restore_same : (s : k.Session) (text : List ℕ) → ¬ ((k.restore s text).number ≡ 0) → (k.restore s text).session ≡ s
  pub restore_not_2 : (s : k.Session) (text : List ℕ) → k.InBounds s → ¬ ((k.restore s text).number ≡ 2)
  pub round_trip : (s w : k.Session) (out : List ℕ) → k.InBounds s → k.InBounds w → (k.write w (length out)).number ≡ 0
      → k.restore s (mark_by k w out) ≡ done_with w
  -- the run, in pieces
  pub whole_none : (s : k.Session) → Whole s []
  pub whole_more : (s : k.Session) (a b : List k.Item) → Whole s a → Whole (k.after s a) b → Whole s (a ++ b)
  pub after_none : (s : k.Session) → k.after s [] ≡ s
  pub after_cut : (s : k.Session) (a b : List k.Item) → Whole s a → k.after s (a ++ b) ≡ k.after (k.after s a) b
  pub output_none : (s : k.Session) → k.output s [] ≡ []
  pub output_cut : (s : k.Session) (a b : List k.Item) → Whole s a → k.output s (a ++ b) ≡ k.output s a ++ k.output (k.after s a) b
