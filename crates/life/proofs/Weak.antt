-- What the claim rules out, whatever the calls are: a restore that ignores its text, and a coding call that writes anything but
-- what the run gives out.
use Prim.Native.Nat.{ℕ, ◌<◌, ◌^◌}
use mathlib.Core.Path.{◌≡◌, sym, ap, ◌∙◌}
use mathlib.Core.List.{List, [], ◌++◌}
use lib.ListN.{length}
use Rattle.life.specs.Kind.{Kind}
use Rattle.life.specs.Life.{fresh, given_by, mark_by, coded, Life, begun, restored, none}
use Rattle.life.specs.Unbroken.{Histories}
use Rattle.life.proofs.Unbroken.{buffer, roomy}

module _ (k : Kind) (hs : Histories k) where
  -- a rate and a start that begin takes
  abbrev Begins : ℕ → ℕ → Type 0
  Begins rate start = (rate < 2 ^ 32) × ((k.begin rate start).number ≡ 0)

  first : {rate start : ℕ} → Begins rate start → Life k (fresh k rate start) rate start []
  first {rate} {start} b = begun rate start b.0 b.1

  -- a mark of the session begun with one rate and start, restored into that begun with another
  moved : {rate start rate' start' : ℕ} → Begins rate start → Begins rate' start'
      → (k.restore (fresh k rate start) (mark_by k (fresh k rate' start') buffer)).session ≡ fresh k rate' start'
  moved b c =
      let f = first c in
      let r = restored (first b) f buffer ((hs.unbroken f).writes (length buffer) roomy) in
      (hs.unbroken r).session ∙ sym (hs.unbroken f).session

  -- with a restore that hands back a session by the one given alone, every session begun would be the same one
  pub deaf_restore : (back : k.Session → k.Session) → ((s : k.Session) (text : List ℕ) → (k.restore s text).session ≡ back s)
      → (rate start rate' start' : ℕ) → Begins rate start → Begins rate' start' → fresh k rate start ≡ fresh k rate' start'
  deaf_restore back deaf rate start rate' start' b c = sym (moved b b) ∙ deaf _ _ ∙ sym (deaf _ _) ∙ moved b c

  -- where the rules allow it, the first call is done and writes what the run gives out of its input, and nothing else
  pub first_call : (rate start : ℕ) → Begins rate start → (i : k.Input) (out : List k.Out) → k.Typed i
      → k.number_at rate [] i (length out) ≡ 0 → let s = fresh k rate start in
      ((k.code s i (length out)).number ≡ 0) × (given_by k s i out ≡ k.output s (k.items i))
  first_call rate start b i out t a =
      let s = fresh k rate start in
      let u = hs.unbroken (first b) in
      let done = u.answers i (length out) ∙ a in
      (done, ap (λ (l : List k.Out). l ++ given_by k s i out) (hs.workers none) ∙ sym (u.next (coded i out t done)))
