use Rattle.std.proofs.Common.{◌≡◌, refl, sym, ap, ◌∙◌, Bool, true, false, cond, Option, Some, None, List, ℕ, suc, ◌+◌, ◌-◌, ◌≤◌, ◌<◌, ℤ, pos, length, drop, set, length-set, length-drop, drop-drop, add-one, arith, w64, to_z, of_z, to_z-of_z}
use Rattle.std.proofs.lemmas.List.{set-get_or}
use Rattle.std.proofs.lemmas.List.Edits.{sets}
use Rattle.std.specs.Bool.{then_some}
use Rattle.text.specs.Ascii.{NEWLINE}
use Rattle.text.specs.Number.{begins, Number}
use Rattle.text.specs.Fields.{Fields, ended, fault, further, field_then, read_field, read_fields}
use Rattle.text.proofs.FieldTexts.{field_read, field_inside}
use Rattle.text.proofs.Signed.{short_fits}
use Rattle.text.proofs.fields.read_fields.Invariants.{Answers, Reading}
use Rattle.text.proofs.fields.read_fields.Goals as goal

further_zero : (e : Option ℕ) → further 0 e ≡ e
further_zero (Some d) = ap Some (omega arith)
further_zero None = refl

further_more : (c d : ℕ) (e : Option ℕ) → further (c + d) e ≡ further c (further d e)
further_more c d (Some k) = ap Some (omega arith)
further_more c d None = refl

starts : (t : List ℕ) (o : List ℤ) → Reading t o o 0 0
starts t o =
    let m : length o - 0 ≡ length o = omega arith in
    record { inside = omega arith; same = refl; answers = (rw m (further_zero _), rw m) }

step : (n : ℕ) (l : List ℕ) (f : Option Number) → read_field l ≡ f → read_fields (suc n) l ≡ field_then (read_fields n) l f
unfolding read_fields
step n l f e = ap (field_then (λ (m : List ℕ). read_fields n m) l) e

newline : (l : List ℕ) (b : Bool) (f : Fields) → begins NEWLINE l ≡ b → cond b ended fault ≡ f → read_fields 0 l ≡ f
unfolding read_fields
newline l b f e h = rw e h

module _ {t : List ℕ} {o q : List ℤ} {count i : ℕ} (w : Reading t o q count i) where
  -- what is left to read is the end of the answer
  stop : (f : Fields) → read_fields (length o - i) (drop count t) ≡ f → Answers t o (further count f.ending) (sets q i f.numbers)
  stop f e = rw e at w.answers

  module _ (h : i < length o) where
    next : (f : Option Number) → read_field (drop count t) ≡ f
        → read_fields (length o - i) (drop count t) ≡ field_then (read_fields (length o - suc i)) (drop count t) f
    next f e =
        let k : length o - i ≡ suc (length o - suc i) = omega arith in
        rw k (step (length o - suc i) (drop count t) f e)

    more : (n : Number) → read_field (drop count t) ≡ Some n
        → Reading t o (set q i (to_z w64 (of_z w64 n.value))) (count + n.count) (i + 1)
    more n e =
        let id : to_z w64 (of_z w64 n.value) ≡ n.value = to_z-of_z (short_fits n.value (field_read (drop count t) n e).short) in
        let k = length o - suc i in
        let r = stop (field_then (read_fields k) (drop count t) (Some n)) (next (Some n) e) in
        rw (id, add-one i)
        (record {
          inside = omega (arith, w.inside, field_inside (drop count t) n e, length-drop count t);
          same = length-set q i n.value ∙ w.same;
          answers = rw (← drop-drop n.count count t) (further_more count n.count (read_fields k (drop n.count (drop count t))).ending ∙ r.0, r.1);
        })

    no_field : read_field (drop count t) ≡ None → Answers t o None q
    no_field e = stop fault (next None e)

  module _ (h : length o ≤ i) where
    end : (b : Bool) → begins NEWLINE (drop count t) ≡ b → read_fields (length o - i) (drop count t) ≡ cond b ended fault
    end b e = let k : length o - i ≡ 0 = omega arith in rw k (newline (drop count t) b _ e refl)

    ends : (b : Bool) → begins NEWLINE (drop count t) ≡ b → Answers t o (then_some b (count + 1)) q
    ends true e = stop ended (end true e)
    ends false e = stop fault (end false e)

told : (t u : List ℕ) (o q : List ℤ) (x : Option ℕ) → t ≡ u → Answers t o x q → Answers u o x q
told t u o q x e a = rw e at a

read : (t l : List ℕ) (count : ℕ) (x : Option Number) → l ≡ drop count t → x ≡ read_field l → read_field (drop count t) ≡ x
read t l count x e f = ap read_field (sym e) ∙ sym f

faulty : (c : goal.After-from_residual) → Answers (drop c.args.at c.args.s.now) c.args.out.now None c.loop-v.v-items
faulty c =
    told _ _ c.args.out.now c.loop-v.v-items _ c.rest-text.ensures
    (no_field c.loop-v.invariant c.loop-v-test.true (read c.rest-text.result.now _ c.loop-v.count _ c.rest.ensures c.in_err-n.ensures))

pub returns-in_err-n-clause-value : goal.returns-in_err-n-clause-value
returns-in_err-n-clause-value c = c.from_residual.ensures ∙ (faulty c).0

pub returns-in_err-n-clause-out_after : goal.returns-in_err-n-clause-out_after
returns-in_err-n-clause-out_after c = set-get_or c.loop-v.v-items c.loop-v.v-index (pos 0) ∙ (faulty c).1

pub overflow_add-count : goal.overflow_add-count
overflow_add-count c =
    let t = c.rest-text.result.now in
    omega (
      arith,
      c.loop-v.invariant.inside,
      field_inside _ _ (read t _ c.loop-v.count _ c.rest.ensures c.in_ok-n.ensures),
      length-drop c.loop-v.count t,
    )

pub loop-v-preserved : goal.loop-v-preserved
loop-v-preserved c =
    more c.loop-v.invariant c.loop-v-test.true c.in_ok-n.n (read c.rest-text.result.now _ c.loop-v.count _ c.rest.ensures c.in_ok-n.ensures)

newline_is : (t l : List ℕ) (count : ℕ) (b : Bool) → l ≡ drop count t → b ≡ begins NEWLINE l → begins NEWLINE (drop count t) ≡ b
newline_is t l count b e f = ap (begins NEWLINE) (sym e) ∙ sym f

after : (c : goal.After-then_some) → Answers (drop c.args.at c.args.s.now) c.args.out.now (then_some c.begins.result (c.loop-v.count + 1)) c.loop-v.v-items
after c =
    told _ _ c.args.out.now c.loop-v.v-items _ c.rest-text.ensures
    (ends c.loop-v.invariant c.loop-v-test.false c.begins.result
    (newline_is c.rest-text.result.now _ c.loop-v.count _ c.rest-2.ensures c.begins.ensures))

pub returns-clause-value : goal.returns-clause-value
returns-clause-value c = c.then_some.ensures ∙ (after c).0

pub returns-clause-out_after : goal.returns-clause-out_after
returns-clause-out_after c = (after c).1
