use Rattle.std.proofs.Common.{rules, ◌≡◌, sym, ap, ◌∙◌, List, ◌∷◌, ◌++◌, ℕ, ◌+◌, ◌≤◌, ◌<◌, ℤ, pos, length, drop, set, get_or, length-append, length-set, add-one, arith, w64, SFits, to_z-of_z}
use Rattle.std.proofs.lemmas.List.Edits.{sets}
use lib.Seq.{length-sets}
use Rattle.text.specs.Ascii.{TAB, NEWLINE}
use Rattle.text.specs.Number.{decimal}
use Rattle.text.specs.Fields.{fields_text}
use Rattle.text.proofs.Buffer.{sets-append}
use Rattle.text.proofs.FieldTexts.{fields_at, fields_none}
use Rattle.text.proofs.fields.write_fields.Invariants.{Writing}
use Rattle.text.proofs.fields.write_fields.Goals as goal

module _ {o : List ℕ} {at : ℕ} {vs : List ℤ} {q : List ℕ} {p i : ℕ} (w : Writing o at vs q p i) where
  module _ (h : i < length vs) where
    inside : p + 1 + length (decimal (get_or vs i (pos 0))) + length (fields_text (drop (i + 1) vs)) ≤ length q
    inside =
        let v = get_or vs i (pos 0) in
        omega (arith, w.room, w.same, w.place, ap length (fields_at vs i h), length-append (decimal v) (fields_text (drop (i + 1) vs)))

    more : (v : ℤ) → v ≡ get_or vs i (pos 0) → (z : List ℕ) (r : ℕ) → r ≡ p + 1 + length (decimal v)
        → z ≡ sets (set q p TAB) (p + 1) (decimal v) → Writing o at vs z r (i + 1)
    more v e z r n b =
        let rest = fields_text (drop (i + 1) vs) in
        let step : fields_text (drop i vs) ≡ TAB ∷ (decimal v ++ rest) = rw e (fields_at vs i h) in
        record {
          room = w.room;
          same = ap length b ∙ simp (length-sets, length-set) w.same;
          place = omega (arith, n, w.place, ap length step, length-append (decimal v) rest);
          whole = rw (b, n) (sym (sets-append (set q p TAB) (p + 1) (decimal v) rest))
              ∙ ap (λ (k : ℕ). sets (set q p TAB) k (decimal v ++ rest)) (add-one p)
              ∙ ap (sets q p) (sym step) ∙ w.whole;
        }

  module _ (h : length vs ≤ i) where
    last : p + 1 ≡ at + length (fields_text vs)
    last = omega (arith, w.place, ap length (fields_none vs i h))

    ends : set q p NEWLINE ≡ sets o at (fields_text vs)
    ends = ap (sets q p) (sym (fields_none vs i h)) ∙ w.whole

pub bounds-out-p : goal.bounds-out-p
bounds-out-p c = omega (arith, inside c.loop-v.invariant c.loop-v-test.true)

pub write_number-p-requires : goal.write_number-p-requires
write_number-p-requires c =
    let f : SFits w64 (get_or c.args.vs.now c.loop-v.v-index (pos 0)) = search rules in
    simp length-set (omega (arith, inside c.loop-v.invariant c.loop-v-test.true, ap (λ (z : ℤ). length (decimal z)) (to_z-of_z f)))

pub loop-v-preserved : goal.loop-v-preserved
loop-v-preserved c =
    let f : SFits w64 (get_or c.args.vs.now c.loop-v.v-index (pos 0)) = search rules in
    let r = c.write_number-p.ensures in
    more c.loop-v.invariant c.loop-v-test.true _ (to_z-of_z f) _ _ r.value r.out_after

pub bounds-out-p-2 : goal.bounds-out-p-2
bounds-out-p-2 c = omega (arith, last c.loop-v.invariant c.loop-v-test.false)

pub returns-clause-value : goal.returns-clause-value
returns-clause-value c = last c.loop-v.invariant c.loop-v-test.false

pub returns-clause-out_after : goal.returns-clause-out_after
returns-clause-out_after c = ends c.loop-v.invariant c.loop-v-test.false
