-- Whatever was done with it, a session stands where one unbroken run over its history stands.
use Prim.Native.Nat.{ℕ, ◌≤◌}
use native.Mathlib.Omega.{arith}
use mathlib.Core.Path.{◌≡◌, refl, sym, ap, ap₂, ◌∙◌}
use mathlib.Core.List.{List, [], ◌++◌, append_assoc, append-nil}
use lib.ListN.{length, replicate, length-replicate}
use Rattle.life.specs.Kind.{Kind, Reply}
use Rattle.life.specs.Life.{fresh, mark_by, StandsFor, Call, coded, code_refused, wrote, restore_refused, Calls, still, further}
use Rattle.life.specs.Life.{Life, begun, begin_refused, called, restored, Worker, Workers, none, next}
use Rattle.life.specs.Unbroken.{done_with, Unbroken, Histories}
use Rattle.life.proofs.Laws.{Laws}

-- a buffer of any length, and one that holds every mark
pub zeros : ℕ → List ℕ
zeros n = replicate n 0

pub zeros_long : (n : ℕ) → length (zeros n) ≡ n
unfolding zeros
zeros_long n = length-replicate n _

abbrev pub buffer : List ℕ
buffer = zeros 512

pub roomy : 512 ≤ length buffer
roomy = omega (arith, zeros_long 512)

-- the mark that a session writes stands for its history
pub stands_by : {k : Kind} {s : k.Session} {rate start : ℕ} {h : List k.Item} → Life k s rate start h → (out : List ℕ)
    → (k.write s (length out)).number ≡ 0 → StandsFor k (mark_by k s out) rate start h
stands_by {s = s} f out e = record { writer = s; lived = f; out = out; done = e; text = refl }

-- what f gives of one list more: of none, and of two one after the other
module _ {A B : Type 0} (f : List A → List B) where
  pub next_none : (a : List A) → f (a ++ []) ≡ f a ++ []
  next_none a = ap f (append-nil a) ∙ sym (append-nil (f a))

  pub next_then : (a b d : List A) (y z : List B) → f (a ++ b) ≡ f a ++ y → f ((a ++ b) ++ d) ≡ f (a ++ b) ++ z
      → f (a ++ (b ++ d)) ≡ f a ++ (y ++ z)
  next_then a b d y z p q = ap f (sym (append_assoc a b d)) ∙ q ∙ ap (λ (v : List B). v ++ z) p ∙ append_assoc (f a) y z

module _ (k : Kind) (l : Laws k) where
  -- t is where the run from s over xs stands, and ys is what that run gives out
  record Led (s : k.Session) (xs : List k.Item) (ys : List k.Out) (t : k.Session) : Type 0 where
    in_bounds : k.InBounds t
    whole : l.Whole s xs
    session : t ≡ k.after s xs
    given : ys ≡ k.output s xs

  led_none : (s : k.Session) → k.InBounds s → Led s [] [] s
  led_none s b = record { in_bounds = b; whole = l.whole_none s; session = sym (l.after_none s); given = sym (l.output_none s) }

  led_at : {s t u : k.Session} {xs : List k.Item} {ys : List k.Out} → u ≡ t → Led s xs ys t → Led s xs ys u
  led_at e p = rw e p

  -- a session handed back as it was given
  led_same : {s t : k.Session} {ys : List k.Out} → k.InBounds s → t ≡ s → ys ≡ [] → Led s [] ys t
  led_same {s} b e n = rw n (led_at e (led_none s b))

  led_then : {s t u : k.Session} {xs xs' : List k.Item} {ys ys' : List k.Out} → Led s xs ys t → Led t xs' ys' u
      → Led s (xs ++ xs') (ys ++ ys') u
  led_then {s} {t} {u} {xs} {xs'} p q = record {
    in_bounds = q.in_bounds;
    whole = l.whole_more s xs xs' p.whole (rw (← p.session) q.whole);
    session = q.session ∙ ap (λ (v : k.Session). k.after v xs') p.session ∙ sym (l.after_cut s xs xs' p.whole);
    given = ap₂ ◌++◌ p.given (q.given ∙ ap (λ (v : k.Session). k.output v xs') p.session)
        ∙ sym (l.output_cut s xs xs' p.whole);
  }

  call_led : {s t : k.Session} {xs : List k.Item} {ys : List k.Out} → k.InBounds s → Call k s xs ys t → Led s xs ys t
  call_led {s} b (coded i out t e) = record {
    in_bounds = l.code_in_bounds s i (length out) b t e;
    whole = l.code_whole s i (length out) e;
    session = l.code_after s i (length out) e;
    given = l.code_gives s i out e;
  }
  call_led {s} b (code_refused i out e) = led_same b (l.refused_same s i (length out) e) (l.refused_gives s i out e)
  call_led {s} b (wrote out) = led_same b (l.write_same s (length out)) refl
  call_led {s} b (restore_refused text e) = led_same b (l.restore_same s text e) refl

  calls_led : {s t : k.Session} {xs : List k.Item} {ys : List k.Out} → k.InBounds s → Calls k s xs ys t → Led s xs ys t
  calls_led {s} b still = led_none s b
  calls_led b (further g c) = let p = calls_led b g in led_then p (call_led p.in_bounds c)

  -- the history leads from the beginning to the session
  life_led : {s : k.Session} {rate start : ℕ} {h : List k.Item} → Life k s rate start h
      → Led (fresh k rate start) h (k.output (fresh k rate start) h) s
  life_led (begun rate start t e) = led_same (l.begin_in_bounds rate start t) refl (l.output_none (fresh k rate start))
  life_led (begin_refused rate start t e) =
      let same = l.begin_same rate start e in
      led_same (rw (← same) (l.begin_in_bounds rate start t)) same (l.output_none (fresh k rate 0))
  life_led (called f c) =
      let p = life_led f in
      let q = led_then p (call_led p.in_bounds c) in
      record { in_bounds = q.in_bounds; whole = q.whole; session = q.session; given = refl }
  life_led (restored {s} {w} f g out e) =
      let there = life_led g in
      led_at (ap (λ (a : Reply k.Session). a.session) (l.round_trip s w out (life_led f).in_bounds there.in_bounds e)) there

  -- what calls after a life write is what the run gives out next
  pub later : {s t : k.Session} {rate start : ℕ} {h xs : List k.Item} {ys : List k.Out} → Life k s rate start h → Calls k s xs ys t
      → k.output (fresh k rate start) (h ++ xs) ≡ k.output (fresh k rate start) h ++ ys
  later f g = let p = life_led f in sym (led_then p (calls_led p.in_bounds g)).given

  unbroken : {s : k.Session} {rate start : ℕ} {h : List k.Item} → Life k s rate start h → Unbroken k s rate start h
  unbroken {s} {rate} {start} {h} f =
      let p = life_led f in
      let b = p.in_bounds in
      record {
        session = p.session;
        next = λ c. sym (led_then p (call_led b c)).given;
        in_bounds = b;
        code_not_2 = λ i room. l.code_not_2 s i room b;
        write_not_2 = λ room. l.write_not_2 s room b;
        restore_not_2 = λ text. l.restore_not_2 s text b;
        answers = λ i room. rw p.session (l.code_answers rate start h i room (rw (← p.session) b));
        writes = λ room r. l.writes s room b r;
        restores = λ m.
            let w = life_led m.lived in
            rw m.text (l.round_trip s m.writer m.out b w.in_bounds m.done ∙ ap done_with w.session);
      }

  -- it restores its own mark
  goes_on : {s end : k.Session} {rate start : ℕ} {h piece : List k.Item} {ys : List k.Out} → Life k s rate start h
      → Calls k s piece ys end → Worker k rate start h piece ys
  goes_on {s} {end} {rate} {start} {h} f work =
      let u = unbroken f in
      let m = stands_by f buffer (u.writes (length buffer) roomy) in
      let same : (k.restore s (mark_by k s buffer)).session ≡ s = ap (λ (a : Reply k.Session). a.session) (u.restores m) ∙ sym u.session in
      record {
        own = s;
        own_rate = rate;
        own_start = start;
        own_history = h;
        own_life = f;
        line = mark_by k s buffer;
        stands = m;
        end = end;
        work = rw same work;
      }

-- a line that stands for a history gives whoever restores it that history
pub restored_from : {k : Kind} {s : k.Session} {rate start rate' start' : ℕ} {h h' : List k.Item} {line : List ℕ}
    → Life k s rate start h → StandsFor k line rate' start' h' → Life k (k.restore s line).session rate' start' h'
restored_from f m = rw m.text (restored f m.lived m.out m.done)

module _ (k : Kind) (l : Laws k) where
  workers_from : {rate start : ℕ} {before rest : List k.Item} {ys : List k.Out} → Workers k rate start before rest ys
      → k.output (fresh k rate start) (before ++ rest) ≡ k.output (fresh k rate start) before ++ ys
  workers_from {rate} {start} (none {before}) = next_none (k.output (fresh k rate start)) before
  workers_from {rate} {start} (next {before} {piece} {rest} {ys} {zs} w ws) =
      next_then (k.output (fresh k rate start)) before piece rest ys zs
      (later k l (restored_from w.own_life w.stands) w.work) (workers_from ws)

  workers : {rate start : ℕ} {recording : List k.Item} {ys : List k.Out} → Workers k rate start [] recording ys
      → ys ≡ k.output (fresh k rate start) recording
  workers {rate} {start} {ys = ys} ws =
      sym (workers_from ws ∙ ap (λ (v : List k.Out). v ++ ys) (l.output_none (fresh k rate start)))

  -- THE THEOREM
  pub histories : Histories k
  histories = record { unbroken = unbroken k l; goes_on = goes_on k l; workers = workers }

-- the start of a life is one that begin takes, or 0
pub started : {k : Kind} (P : ℕ → Type 0) → ((rate start : ℕ) → (k.begin rate start).number ≡ 0 → P start) → P 0
    → {s : k.Session} {rate start : ℕ} {h : List k.Item} → Life k s rate start h → P start
started P p z (begun rate start t e) = p rate start e
started P p z (begin_refused rate start t e) = z
started P p z (called f c) = started P p z f
started P p z (restored f g out e) = started P p z g
