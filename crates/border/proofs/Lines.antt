-- Every line of a C caller stands for its history, and its calls give out what one run over the history gives out next.
use Prim.Native.Nat.{ℕ, ◌≤◌, ◌<◌, ◌^◌}
use native.Mathlib.Omega.{arith}
use mathlib.Core.Path.{◌≡◌, refl, sym, ap, subst, ◌∙◌}
use mathlib.Core.Bool.{Bool, true, false, cond, not, ◌||◌}
use mathlib.Core.List.{List, [], ◌∷◌, ◌++◌, append_assoc, append-nil}
use mathlib.Core.Logic.{◌↔◌}
use lib.Dec.{eqb, ltb}
use lib.ListN.{length, drop, replicate, length-replicate, length-append}
use lib.Seq.{sets, take_at, drop_at}
use borrow.Author.Tests.{ltb-false, le-ltb, ne_eqb, eqb-true, eqb-false, not-true, not-false}
use Rattle.answers.specs.Numbers.{done, odd_count, no_room}
use Rattle.g722.specs.Session.{position_most}
use Rattle.g722.proofs.Written.{first_items}
use Rattle.text.specs.Newline.{first_line}
use Rattle.text.proofs.Newline.{first_line_lem}
use Rattle.life.specs.Kind.{Kind, Reply}
use Rattle.life.specs.Life.{fresh, Life, StandsFor}
use Rattle.life.specs.Life as life
use Rattle.life.specs.Unbroken.{done_with, Histories}
use Rattle.life.proofs.Laws.{Laws}
use Rattle.life.proofs.Unbroken.{zeros, zeros_long, buffer, roomy, stands_by, next_none, next_then, histories}
use Rattle.calls.specs.G722.{begin_call_number}
use Rattle.calls.specs.Answers.{OneOf}
use Rattle.calls.proofs.Coded.{passed, Taken, taken}
use Rattle.border.specs.Calls.{CCalls}
use Rattle.border.specs.Lines.{Bytes, items_of, run, new_line, given, number_at, Refused, begin, output, new_mark}
use Rattle.border.specs.Lines.{Work, still, coded, refused, Line, Workers, none, then, Pieces, items_in}
use Rattle.border.specs.Claims.{OneRun, Lines}
use Rattle.border.proofs.Laws.{CallLaws}

neither : (a b : Bool) → (a || b) ≡ false → a ≡ false
neither true b e = e
neither false b e = refl

-- when beginning is done
begun_exactly : (b : ℕ) (line mark : List ℕ) → (begin_call_number b line mark ≡ 0) ↔ ((b ≡ 0) × (length line ≤ length mark))
unfolding begin_call_number
begun_exactly b line mark = (
  λ e.
      let p = passed (not (eqb b done)) b _ (λ t. eqb-false b done (not-true _ t)) e in
      let q = passed (ltb (length mark) (length line)) no_room done (λ t z. omega (arith, z)) p.1 in
      (eqb-true b done (not-false _ p.0), ltb-false _ _ q.0),
  λ t. rw (t.0, le-ltb (length mark) (length line) t.1),
)

module _ {k : Kind} (l : Laws k) {c : CCalls k} (o : CallLaws c) where
  hs : Histories k
  hs = histories k l

  -- a line at the front of a buffer, and a line that a session would write
  line_in : (s : k.Session) (out : List ℕ) → length (o.line_of s) ≤ length out → first_line (sets out 0 (o.line_of s)) ≡ o.line_of s
  line_in s out h = rw (first_items (o.line_of s) out _ refl h) (first_line_lem (o.one_line s) _)

  stands_as : {s : k.Session} {rate start : ℕ} {h : List k.Item} {line : List ℕ} → Life k s rate start h → line ≡ o.line_of s
      → StandsFor k line rate start h
  stands_as {s} f e =
      let w = (hs.unbroken f).writes (length buffer) roomy in
      rw (e ∙ sym (o.mark_is s buffer w)) (stands_by f buffer w)

  refused_same : {before after : List ℕ} → Refused c before after → after ≡ before
  refused_same (begin rate start mark e) = o.begin_mark_lem rate start mark ∙ rw (ne_eqb (c.begin_number rate start mark) 0 e)
  refused_same (output line input out next e) = o.code_output line input out next ∙ rw (ne_eqb (c.number line input out next) 0 e)
  refused_same (new_mark line input out next e) = o.code_mark line input out next ∙ rw (ne_eqb (c.number line input out next) 0 e)

  -- ---- a line that stands for a history

  module _ {line : List ℕ} {rate start : ℕ} {h : List k.Item} (m : StandsFor k line rate start h) where
    abbrev there : k.Session
    there = k.after (fresh k rate start) h

    lives : Life k there rate start h
    lives = subst (λ (s : k.Session). Life k s rate start h) (hs.unbroken m.lived).session m.lived

    restores : k.restore (fresh k 16000 0) line ≡ done_with there
    restores = (hs.unbroken (life.begun 16000 0 (omega arith) (o.starts 16000 0 (omega arith)))).restores m

    restored : (k.restore (fresh k 16000 0) line).session ≡ there
    restored = ap (λ (r : Reply k.Session). r.session) restores

    answers : (input out next : List ℕ) → c.number line input out next ≡ number_at c rate h input out next
    answers input out next =
        o.code_number line input out next rate start h restores (hs.unbroken lives).in_bounds ∙ o.number_at_lem rate h input out next

    listed : (input out next : List ℕ) → OneOf c.coding_answers (c.number line input out next)
    unfolding number_at
    listed input out next =
        rw (answers input out next)
        (o.listed rate (length input) (ltb (length out) (c.count rate (length input)) || ltb (length next) 512)
        (ltb position_most (c.position rate (length (h ++ items_of c input)))))

    -- a call that is done
    module _ (input out next : List ℕ) (e : c.number line input out next ≡ 0) where
      allowed : number_at c rate h input out next ≡ 0
      allowed = sym (answers input out next) ∙ e

      fits : c.count rate (length input) ≤ length out
      unfolding number_at
      fits =
          let short = ltb (length out) (c.count rate (length input)) in
          let small = ltb (length next) 512 in
          let p = passed (c.odd rate (length input)) odd_count _ (λ t z. omega (arith, z)) allowed in
          let q = passed (short || small) no_room _ (λ t z. omega (arith, z)) p.1 in
          ltb-false _ _ (neither short small q.0)

      passes : Taken (cond (o.half input) odd_count (k.number_at rate h (c.input input) (o.room (length out)))) (length next)
      passes = taken _ _ _ (o.number_at_lem rate h input out next ∙ allowed)

      -- the bytes that the run gives out next
      abbrev bytes : List ℕ
      bytes = c.as_bytes (k.output there (items_of c input))

      out_is : c.out line input out next ≡ bytes ++ drop (c.count rate (length input)) out
      out_is = o.code_output line input out next ∙ rw (e, restored) (first_items bytes out _ (o.counted rate start h input) fits)

      given_is : given c rate line input out next ≡ bytes
      given_is = rw out_is (take_at bytes _ _ (o.counted rate start h input))

      keeps : drop (c.count rate (length input)) (c.out line input out next) ≡ drop (c.count rate (length input)) out
      keeps = rw out_is (drop_at bytes _ _ (o.counted rate start h input))

      -- the same call on the session
      abbrev room : List k.Out
      room = replicate (o.room (length out)) o.blank

      codes : (k.code there (c.input input) (length room)).number ≡ 0
      codes =
          let whole = passed (o.half input) odd_count _ (λ t z. omega (arith, z)) passes.codes in
          rw (length-replicate (o.room (length out)) o.blank) ((hs.unbroken lives).answers (c.input input) _ ∙ whole.1)

      module _ (b : Bytes input) where
        abbrev call : life.Call k there (items_of c input) (life.given_by k there (c.input input) room) (k.code there (c.input input) (length room)).session
        call = life.coded (c.input input) room (o.typed input b) codes

        gives : run c rate start (h ++ items_of c input) ≡ run c rate start h ++ given c rate line input out next
        gives =
            ap c.as_bytes ((hs.unbroken lives).next call)
            ∙ rw (l.code_gives there (c.input input) room codes, given_is) (o.bytes_cut (k.output (fresh k rate start) h) _)

        new_stands : StandsFor k (new_line c line input out next) rate start (h ++ items_of c input)
        new_stands =
            let later = k.after there (items_of c input) in
            let f : Life k later rate start (h ++ items_of c input) = rw (← l.code_after there (c.input input) _ codes) (life.called lives call) in
            let short = o.line_short later (hs.unbroken f).in_bounds in
            stands_as f (ap first_line (o.code_mark line input out next ∙ rw (e, restored)) ∙ line_in later next (omega (arith, passes.roomy)))

    one_run : OneRun c line rate start h
    one_run = record { answers = answers; listed = listed; gives = λ input out next b e. gives input out next e b; keeps = keeps }

  -- ---- work

  work_stands : {line : List ℕ} {rate start : ℕ} {end : List ℕ} {h xs : List k.Item} {ys : List ℕ} → StandsFor k line rate start h
      → Work c rate line xs ys end → StandsFor k end rate start (h ++ xs)
  work_stands {h = h} m still = rw (append-nil h) m
  work_stands {rate = rate} {start} {h} m (coded {xs} {at = at} w input out next b e) =
      subst (StandsFor k (new_line c at input out next) rate start) (append_assoc h xs (items_of c input))
      (new_stands (work_stands m w) input out next e b)
  work_stands m (refused w r) = rw (refused_same r) (work_stands m w)

  work_gives : {line : List ℕ} {rate start : ℕ} {end : List ℕ} {h xs : List k.Item} {ys : List ℕ} → StandsFor k line rate start h
      → Work c rate line xs ys end → run c rate start (h ++ xs) ≡ run c rate start h ++ ys
  work_gives {rate = rate} {start} {h} m still = next_none (run c rate start) h
  work_gives {rate = rate} {start} {h} m (coded {xs} {ys} w input out next b e) =
      next_then (run c rate start) h xs (items_of c input) ys _ (work_gives m w) (gives (work_stands m w) input out next e b)
  work_gives m (refused w r) = work_gives m w

  begun_stands : (rate start : ℕ) (mark : List ℕ) → rate < 2 ^ 32 → c.begin_number rate start mark ≡ 0
      → StandsFor k (first_line (c.begin_mark rate start mark)) rate start []
  begun_stands rate start mark r e =
      let t = (begun_exactly _ (o.line_of (fresh k rate start)) mark).0 (sym (o.begin_number_lem rate start mark) ∙ e) in
      stands_as (life.begun rate start r t.0) (ap first_line (o.begin_mark_lem rate start mark ∙ rw e) ∙ line_in (fresh k rate start) mark t.1)

  begins : (rate start : ℕ) (mark : List ℕ) → start ≤ 1 → rate < 2 ^ 32 → 512 ≤ length mark → c.begin_number rate start mark ≡ 0
  begins rate start mark s r h =
      let b = o.starts rate start s in
      let short = o.line_short (fresh k rate start) (hs.unbroken (life.begun rate start r b)).in_bounds in
      o.begin_number_lem rate start mark ∙ (begun_exactly _ (o.line_of (fresh k rate start)) mark).1 (b, omega arith)

  from_nothing : (rate start : ℕ) {h : List k.Item} {ys : List ℕ} → run c rate start h ≡ run c rate start [] ++ ys → ys ≡ run c rate start h
  from_nothing rate start {ys = ys} e =
      sym (e ∙ ap (λ (v : List ℕ). v ++ ys) (ap c.as_bytes (l.output_none (fresh k rate start)) ∙ o.bytes_none))

  -- a caller's line
  module _ {line : List ℕ} {rate start : ℕ} {h : List k.Item} (t : Line c line rate start h) where
    first : StandsFor k (first_line (c.begin_mark rate start t.mark)) rate start []
    first = begun_stands rate start t.mark t.rate_fits t.begun

    stands : StandsFor k line rate start h
    stands = work_stands first t.work

    gave : t.gave ≡ run c rate start h
    gave = from_nothing rate start (work_gives first t.work)

  line_is : {line : List ℕ} {rate start : ℕ} {h : List k.Item} → StandsFor k line rate start h
      → line ≡ o.line_of (k.after (fresh k rate start) h)
  line_is m = m.text ∙ o.mark_is m.writer m.out m.done ∙ ap o.line_of (hs.unbroken m.lived).session

  -- ---- workers

  workers_from : {rate start : ℕ} {before rest : List k.Item} {ys : List ℕ} → Workers c rate start before rest ys
      → run c rate start (before ++ rest) ≡ run c rate start before ++ ys
  workers_from {rate} {start} (none {before}) = next_none (run c rate start) before
  workers_from {rate} {start} (then {before = before} {piece} {rest} {ys} {zs} m w ws) =
      next_then (run c rate start) before piece rest ys zs (work_gives m w) (workers_from ws)

  workers : {rate start : ℕ} {recording : List k.Item} {ys : List ℕ} → Workers c rate start [] recording ys
      → ys ≡ run c rate start recording
  workers {rate} {start} ws = from_nothing rate start (workers_from ws)

  -- a worker for each piece: it takes the piece in one call, and hands its new line on
  module _ (rate start : ℕ) where
    abbrev Fits : List k.Item → Type 0
    Fits h = c.position rate (length h) ≤ position_most

    fits_front : (a b : List k.Item) → Fits (a ++ b) → Fits a
    fits_front a b f = omega (arith, rw (length-append a b) at f, o.position_cut rate (length a) (length b))

    takes : (before : List k.Item) (p : List ℕ) → c.odd rate (length p) ≡ false → Fits (before ++ items_of c p)
        → number_at c rate before p (zeros (c.count rate (length p))) buffer ≡ 0
    unfolding number_at
    takes before p even f =
        let n = c.count rate (length p) in
        rw (even, le-ltb (length (zeros n)) n (omega (arith, zeros_long n)), le-ltb (length buffer) 512 roomy, le-ltb position_most _ f)

    workers_for : {line : List ℕ} {before : List k.Item} → StandsFor k line rate start before → (pieces : List (List ℕ))
        → Pieces c rate pieces → Fits (before ++ items_in c pieces) → (ys : List ℕ) × Workers c rate start before (items_in c pieces) ys
    workers_for m [] t f = ([], none)
    workers_for {line} {before} m (p ∷ ps) t f =
        let g = rw (← append_assoc before (items_of c p) (items_in c ps)) at f in
        let out = zeros (c.count rate (length p)) in
        let e = answers m p out buffer ∙ takes before p t.1.0 (fits_front (before ++ items_of c p) (items_in c ps) g) in
        let rest = workers_for {line = new_line c line p out buffer} {before = before ++ items_of c p} (new_stands m p out buffer e t.0) ps t.1.1 g in
        (given c rate line p out buffer ++ rest.0, then m (coded still p out buffer t.0 e) rest.1)

  cut_at_will : (rate start : ℕ) (pieces : List (List ℕ)) → start ≤ 1 → rate < 2 ^ 32 → Pieces c rate pieces
      → c.position rate (length (items_in c pieces)) ≤ position_most
      → Workers c rate start [] (items_in c pieces) (run c rate start (items_in c pieces))
  cut_at_will rate start pieces s r t f =
      let w = workers_for rate start (begun_stands rate start buffer r (begins rate start buffer s r roomy)) pieces t f in
      rw (workers w.1) at w.1

  -- THE THEOREM
  pub lines : Lines c
  lines = record {
    stands = stands;
    gave = gave;
    one_run = one_run;
    leads = λ m w. work_stands m w;
    same_line = λ m n. line_is m ∙ sym (line_is n);
    begins = begins;
    workers = workers;
    cut_at_will = cut_at_will;
    refused = refused_same;
    begin_not_2 = o.begin_not_2;
    not_2 = o.not_2;
  }
