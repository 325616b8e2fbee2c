-- A text begins with a line exactly where it begins with the text of two letters of the grammar and n numbers of at most ten
-- digits, the first two without a minus; and with no other line.
use mathlib.Core.Path.{◌≡◌, refl, sym, ap, ◌∙◌}
use mathlib.Core.Bool.{true, ◌&&◌}
use mathlib.Core.List.{List, [], ◌∷◌, ◌++◌}
use mathlib.Core.Logic.{◌↔◌}
use Rattle.std.specs.Prelude.{Option, Some, None}
use Prim.Native.Nat.{ℕ, ◌+◌, ◌≤◌}
use native.Mathlib.Numerals.{add-three}
use native.Mathlib.Omega.{arith}
use lib.Dec.{eqb}
use lib.IntN.{ℤ}
use lib.ListN.{length, drop, get_or, length-append}
use lib.Seq.{drop-drop}
use borrow.Author.Tests.{eqb-true}
use Rattle.text.specs.Ascii.{TAB}
use Rattle.text.specs.Fields.{parted, fields_text, AllShort, Fields, read_fields}
use Rattle.text.proofs.Tests.{Test, yes!, no!, test, some_is, none_some, false_is_true, both}
use Rattle.text.proofs.FieldTexts.{parted_is, read_fields_lem, fields_read}
use Rattle.line.specs.Line.{line_text, kind_letter, start_letter, headed, plain_two, unsigned, line_of, read_line, line_numbers, LineOf, WellFormed}
use Rattle.line.specs.declared.Line.{Line}

-- the text of the numbers comes after three bytes
pub line_is : (k z : ℕ) (vs : List ℤ) → line_text k z vs ≡ k ∷ TAB ∷ z ∷ fields_text vs
unfolding line_text parted
line_is k z vs = ap (λ (m : List ℕ). k ∷ TAB ∷ m) (parted_is (z ∷ []) vs)

pub line_long : (k z : ℕ) (vs : List ℤ) → length (line_text k z vs) ≡ length (fields_text vs) + 3
line_long k z vs = ap length (line_is k z vs) ∙ sym (add-three (length (fields_text vs)))

-- ---- reading what was written

abbrev pub sound : ℕ → ℕ → ℕ → Option Line
sound kind start count = Some (record { kind = kind; start = start; count = count })

pub read_line_lem : (k z : ℕ) (vs : List ℤ) (t : List ℕ) → kind_letter k ≡ true → start_letter z ≡ true → AllShort vs → plain_two vs ≡ true
    → (read_line (length vs) (line_text k z vs ++ t) ≡ sound k z (length (line_text k z vs)))
    × (line_numbers (length vs) (line_text k z vs ++ t) ≡ vs)
unfolding read_line line_numbers headed unsigned
read_line_lem k z vs t hk hz a p = (
  rw (line_is k z vs, hk, hz, read_fields_lem vs t a, p) (ap (sound k z) (add-three (length (fields_text vs)))),
  rw (line_is k z vs, hk, hz, read_fields_lem vs t a),
)

-- ---- what was read is what is written

-- a text with a head
pub record Head (l : List ℕ) : Type 0 where
  pub kind : kind_letter (get_or l 0 0) ≡ true
  pub start : start_letter (get_or l 2 0) ≡ true
  pub split : l ≡ get_or l 0 0 ∷ TAB ∷ get_or l 2 0 ∷ drop 3 l

pub head : (l : List ℕ) → headed l ≡ true → Head l
unfolding headed
head [] e = false_is_true e
head (k ∷ []) e = false_is_true e
head (k ∷ t ∷ []) e = false_is_true e
head (k ∷ t ∷ z ∷ l) e =
    let a = both (kind_letter k && eqb t TAB) (start_letter z) e in
    let b = both (kind_letter k) (eqb t TAB) a.0 in
    record { kind = b.0; start = a.1; split = ap (λ (x : ℕ). k ∷ x ∷ z ∷ l) (eqb-true t TAB b.1) }

-- numbers that are taken, none of the first two with a minus
unsigned_some : (f : Fields) (c : ℕ) → unsigned f ≡ Some c → (plain_two f.numbers ≡ true) × (f.ending ≡ Some c)
unfolding unsigned
unsigned_some f c e = go (test (plain_two f.numbers))
  where
    go : Test (plain_two f.numbers) → (plain_two f.numbers ≡ true) × (f.ending ≡ Some c)
    go (yes! p) = (p, rw p at e)
    go (no! p) = none_some (rw p at e)

pub unsigned_inside : (n : ℕ) (l : List ℕ) (c : ℕ) → unsigned (read_fields n l) ≡ Some c → c ≤ length l
unsigned_inside n l c e =
    let r = fields_read n l c (unsigned_some (read_fields n l) c e).1 in
    omega (arith, r.counted, ap length r.text, length-append (fields_text (read_fields n l).numbers) (drop c l))

pub line_read : (n : ℕ) (l : List ℕ) (k z c : ℕ) → read_line n l ≡ Some (record { kind = k; start = z; count = c })
    → LineOf n l k z (line_numbers n l) c
unfolding read_line line_numbers
line_read n l k z c e = go (test (headed l))
  where
    whole : Head l → (x : Option ℕ) → unsigned (read_fields n (drop 3 l)) ≡ x → line_of (get_or l 0 0) (get_or l 2 0) x ≡ sound k z c
        → LineOf n l k z (read_fields n (drop 3 l)).numbers c
    whole h None p q = none_some q
    whole h (Some d) p q =
        let w : ◌≡◌ {A = Line} (record { kind = get_or l 0 0; start = get_or l 2 0; count = d + 3 }) (record { kind = k; start = z; count = c }) =
        some_is q
        in
        let u = unsigned_some (read_fields n (drop 3 l)) d p in
        let r = fields_read n (drop 3 l) d u.1 in
        let vs = (read_fields n (drop 3 l)).numbers in
        rw (← ap (λ (x : Line). x.kind) w, ← ap (λ (x : Line). x.start) w, ← ap (λ (x : Line). x.count) w)
        (record {
          kind_ok = h.kind;
          start_ok = h.start;
          many = r.many;
          short = r.short;
          plain = u.0;
          counted = ap (λ (x : ℕ). x + 3) r.counted ∙ sym (line_long (get_or l 0 0) (get_or l 2 0) vs);
          text = h.split
              ∙ ap (λ (m : List ℕ). get_or l 0 0 ∷ TAB ∷ get_or l 2 0 ∷ m) (r.text ∙ ap (λ (m : List ℕ). fields_text vs ++ m) (behind d))
              ∙ ap (λ (m : List ℕ). m ++ drop (d + 3) l) (sym (line_is (get_or l 0 0) (get_or l 2 0) vs));
        })
      where
        behind : (d : ℕ) → drop d (drop 3 l) ≡ drop (d + 3) l
        behind d = let n : 3 + d ≡ d + 3 = omega arith in drop-drop d 3 l ∙ ap (λ (x : ℕ). drop x l) n

    go : Test (headed l) → LineOf n l k z (line_numbers n l) c
    go (no! p) = none_some (rw p at e)
    go (yes! p) = rw p (whole (head l p) (unsigned (read_fields n (drop 3 l))) refl (rw p at e))

-- ---- both

pub line_exactly : (n : ℕ) (l : List ℕ) (k z : ℕ) (vs : List ℤ) (c : ℕ)
    → ((read_line n l ≡ Some (record { kind = k; start = z; count = c })) × (line_numbers n l ≡ vs)) ↔ LineOf n l k z vs c
line_exactly n l k z vs c = (λ e. rw e.1 at (line_read n l k z c e.0), back)
  where
    back : LineOf n l k z vs c → (read_line n l ≡ sound k z c) × (line_numbers n l ≡ vs)
    back h =
        let r = read_line_lem k z vs (drop c l) h.kind_ok h.start_ok h.short h.plain in (
          ap (read_line n) h.text ∙ ap (λ (x : ℕ). read_line x (line_text k z vs ++ drop c l)) (sym h.many) ∙ r.0
              ∙ ap (sound k z) (sym h.counted),
          ap (line_numbers n) h.text ∙ ap (λ (x : ℕ). line_numbers x (line_text k z vs ++ drop c l)) (sym h.many) ∙ r.1,
        )

pub malformed_exactly : (n : ℕ) (l : List ℕ)
    → (read_line n l ≡ None) ↔ ((k z : ℕ) (vs : List ℤ) (c : ℕ) → LineOf n l k z vs c → ⊥)
malformed_exactly n l = (never, λ e. none e (read_line n l) refl)
  where
    never : read_line n l ≡ None → (k z : ℕ) (vs : List ℤ) (c : ℕ) → LineOf n l k z vs c → ⊥
    never e k z vs c h = none_some (sym e ∙ ((line_exactly n l k z vs c).1 h).0)

    none : ((k z : ℕ) (vs : List ℤ) (c : ℕ) → LineOf n l k z vs c → ⊥) → (x : Option Line) → read_line n l ≡ x → read_line n l ≡ None
    none f None e = e
    none f (Some x) e = absurd (f x.kind x.start (line_numbers n l) x.count (line_read n l x.kind x.start x.count e))

-- all of a text is a line exactly where the line that is read takes all its bytes
pub well_formed_exactly : (n : ℕ) (l : List ℕ) → WellFormed n l ↔ ((k z : ℕ) × (read_line n l ≡ Some (record { kind = k; start = z; count = length l })))
well_formed_exactly n l = (
  λ w. (w.kind, w.start, ((line_exactly n l w.kind w.start w.numbers (length l)).1 w.whole).0),
  λ e. record { kind = e.0; start = e.1; numbers = line_numbers n l; whole = line_read n l e.0 e.1 (length l) e.2 },
)

-- a text begins with one line at most
pub one_line : (n : ℕ) (l : List ℕ) (k z : ℕ) (vs : List ℤ) (c j y : ℕ) (ws : List ℤ) (d : ℕ) → LineOf n l k z vs c → LineOf n l j y ws d
    → (k ≡ j) × (z ≡ y) × (vs ≡ ws) × (c ≡ d)
one_line n l k z vs c j y ws d g h =
    let a = (line_exactly n l k z vs c).1 g in
    let b = (line_exactly n l j y ws d).1 h in
    let e : ◌≡◌ {A = Line} (record { kind = k; start = z; count = c }) (record { kind = j; start = y; count = d }) = some_is (sym a.0 ∙ b.0) in
    (ap (λ (x : Line). x.kind) e, ap (λ (x : Line). x.start) e, sym a.1 ∙ b.1, ap (λ (x : Line). x.count) e)
