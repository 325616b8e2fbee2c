-- A text begins with n numbers, each after a tab, and a newline exactly where it begins with the text of n numbers of at most
-- ten digits; and that text is the fields with tabs between them.
use mathlib.Core.Path.{◌≡◌, refl, sym, ap, ◌∙◌}
use mathlib.Core.List.{List, [], ◌∷◌, ◌++◌, map, append_assoc}
use mathlib.Core.Logic.{◌↔◌}
use Rattle.std.specs.Prelude.{Option, Some, None}
use Prim.Native.Nat.{ℕ, zero, suc, ◌+◌, ◌≤◌, ◌<◌}
use native.Mathlib.Numerals.{add-one}
use native.Mathlib.Omega.{arith}
use lib.IntN.{ℤ, pos}
use lib.ListN.{length, drop, get_or, length-append, drop_of_length-le}
use lib.Seq.{drop_at, drop-drop, drop-cons}
use Rattle.text.specs.Ascii.{TAB, NEWLINE}
use Rattle.text.specs.Number.{decimal, Short, begins, run, read_number, Number}
use Rattle.text.specs.Fields.{parted, fields_text, AllShort, Fields, after_tab, further, field_then, read_field, read_fields, FieldsOf}
use Rattle.text.proofs.Tests.{Test, yes!, no!, test, some_is, none_some}
use Rattle.text.proofs.NumberTexts.{begins_split, number, read_decimal, decimal_read}

-- the text after a first field is that of fields parted by tabs
pub parted_is : (f : List ℕ) (vs : List ℤ) → parted (f ∷ map decimal vs) ≡ f ++ fields_text vs
unfolding parted fields_text
parted_is f [] = refl
parted_is f (v ∷ vs) = ap (λ (m : List ℕ). f ++ TAB ∷ m) (parted_is (decimal v) vs)

-- ---- a field

read_field_lem : (v : ℤ) (t : List ℕ) → Short v → run t ≡ 0
    → read_field (TAB ∷ (decimal v ++ t)) ≡ number v (length (decimal v) + 1)
unfolding read_field begins
read_field_lem v t h s = ap after_tab (read_decimal v t h s)

-- l begins with a tab and the text of v
pub record FieldOf (l : List ℕ) (v : ℤ) (count : ℕ) : Type 0 where
  pub short : Short v
  pub counted : count ≡ length (decimal v) + 1
  pub text : l ≡ TAB ∷ (decimal v ++ drop count l)

pub field_read : (l : List ℕ) (n : Number) → read_field l ≡ Some n → FieldOf l n.value n.count
unfolding read_field
field_read l n e = go (test (begins TAB l))
  where
    found : (m : List ℕ) (x : Option Number) → read_number m ≡ x → after_tab x ≡ Some n → FieldOf (TAB ∷ m) n.value n.count
    found m None p q = none_some q
    found m (Some x) p q =
        let h = decimal_read m x p in
        rw (← some_is q)
        (record {
          short = h.short;
          counted = ap (λ (k : ℕ). k + 1) h.counted;
          text = rw (add-one x.count) (ap (λ (y : List ℕ). TAB ∷ y) h.text);
        })

    go : Test (begins TAB l) → FieldOf l n.value n.count
    go (no! z) = none_some (rw z at e)
    go (yes! z) = rw (begins_split TAB l z) (found (drop 1 l) (read_number (drop 1 l)) refl (rw z at e))

pub field_inside : (l : List ℕ) (n : Number) → read_field l ≡ Some n → n.count ≤ length l
field_inside l n e =
    let h = field_read l n e in
    omega (arith, h.counted, ap length h.text, length-append (decimal n.value) (drop n.count l))

-- ---- one field more of those from i on

pub fields_at : (vs : List ℤ) (i : ℕ) → i < length vs
    → fields_text (drop i vs) ≡ TAB ∷ (decimal (get_or vs i (pos 0)) ++ fields_text (drop (i + 1) vs))
unfolding fields_text
fields_at vs i h = rw (drop-cons vs i (pos 0) h, add-one i)

pub fields_none : (vs : List ℤ) (i : ℕ) → length vs ≤ i → fields_text (drop i vs) ≡ NEWLINE ∷ []
unfolding fields_text
fields_none vs i h = rw (drop_of_length-le vs h)

-- there is a newline at the least
pub fields_some : (vs : List ℤ) → 1 ≤ length (fields_text vs)
unfolding fields_text
fields_some [] = omega arith
fields_some (v ∷ vs) = omega arith

-- ---- reading what was written

stops : (vs : List ℤ) (t : List ℕ) → run (fields_text vs ++ t) ≡ 0
unfolding fields_text run
stops [] t = refl
stops (v ∷ vs) t = refl

pub read_fields_lem : (vs : List ℤ) (t : List ℕ) → AllShort vs
    → read_fields (length vs) (fields_text vs ++ t) ≡ record { numbers = vs; ending = Some (length (fields_text vs)) }
unfolding fields_text read_fields begins
read_fields_lem [] t h = refl
read_fields_lem (v ∷ vs) t h =
    let l : List ℕ = TAB ∷ (decimal v ++ (fields_text vs ++ t)) in
    let split : (decimal v ++ fields_text vs) ++ t ≡ decimal v ++ (fields_text vs ++ t) = append_assoc (decimal v) (fields_text vs) t in
    let rest : drop (length (decimal v) + 1) l ≡ fields_text vs ++ t =
    rw (add-one (length (decimal v))) (drop_at (decimal v) (fields_text vs ++ t) (length (decimal v)) refl) in
    let r = read_fields_lem vs t h.1 in
    let long : length (decimal v) + 1 + length (fields_text vs) ≡ suc (length (decimal v ++ fields_text vs)) =
    omega (arith, length-append (decimal v) (fields_text vs)) in
    rw (split, read_field_lem v (fields_text vs ++ t) h.0 (stops vs t), rest, r, long)

-- ---- what was read is what is written

pub fields_read : (n : ℕ) (l : List ℕ) (c : ℕ) → (read_fields n l).ending ≡ Some c → FieldsOf n l (read_fields n l).numbers c
unfolding read_fields fields_text
fields_read zero l c e = go (test (begins NEWLINE l))
  where
    go : Test (begins NEWLINE l) → FieldsOf zero l (read_fields zero l).numbers c
    go (no! z) = none_some (rw z at e)
    go (yes! z) =
        let ec : 1 ≡ c = some_is (rw z at e) in
        rw (z, ← ec) (record { many = refl; short = tt; counted = refl; text = begins_split NEWLINE l z })
fields_read (suc n) l c e = go (read_field l) refl e (fields_read n)
  where
    go : (f : Option Number) → read_field l ≡ f → (field_then (read_fields n) l f).ending ≡ Some c
        → ((m : List ℕ) (d : ℕ) → (read_fields n m).ending ≡ Some d → FieldsOf n m (read_fields n m).numbers d)
        → FieldsOf (suc n) l (field_then (read_fields n) l f).numbers c
    go None p q ih = none_some q
    go (Some x) p q ih = more (read_fields n (drop x.count l)).ending refl q
      where
        more : (end : Option ℕ) → (read_fields n (drop x.count l)).ending ≡ end → further x.count end ≡ Some c
            → FieldsOf (suc n) l (x.value ∷ (read_fields n (drop x.count l)).numbers) c
        more None a b = none_some b
        more (Some d) a b =
            let ec : x.count + d ≡ c = some_is b in
            let h = field_read l x p in
            let r = ih (drop x.count l) d a in
            let ws = (read_fields n (drop x.count l)).numbers in
            rw (← ec)
            (record {
              many = ap suc r.many;
              short = (h.short, r.short);
              counted = omega (arith, h.counted, r.counted, length-append (decimal x.value) (fields_text ws));
              text = h.text
                  ∙ ap (λ (m : List ℕ). TAB ∷ (decimal x.value ++ m))
                  (r.text ∙ ap (λ (m : List ℕ). fields_text ws ++ m) (drop-drop d x.count l))
                  ∙ ap (λ (m : List ℕ). TAB ∷ m) (sym (append_assoc (decimal x.value) (fields_text ws) (drop (x.count + d) l)));
            })

-- ---- both

pub fields_exactly : (n : ℕ) (l : List ℕ) (vs : List ℤ) (c : ℕ)
    → (read_fields n l ≡ record { numbers = vs; ending = Some c }) ↔ FieldsOf n l vs c
fields_exactly n l vs c = (
  λ e. rw (ap (λ (f : Fields). f.numbers) e) at (fields_read n l c (ap (λ (f : Fields). f.ending) e)),
  λ h.
      ap (read_fields n) h.text
      ∙ ap (λ (k : ℕ). read_fields k (fields_text vs ++ drop c l)) (sym h.many)
      ∙ read_fields_lem vs (drop c l) h.short
      ∙ ap (λ (k : ℕ). record { numbers = vs; ending = Some k }) (sym h.counted),
)
