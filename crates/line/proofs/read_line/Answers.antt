-- By whether the letters stand there with a tab between them, and then by how the numbers ended. Three bytes that stand there are
-- taken apart one by one; where fewer stand, there is no head.
use Rattle.std.proofs.Common.{◌≡◌, refl, sym, ap, ◌∙◌, Bool, true, false, ◌&&◌, Option, Some, None, List, [], ◌∷◌, ℕ, ◌≤◌, ◌<◌, ◌-◌, ℤ, length, take, drop, get_or, length-drop, ne_eqb, arith}
use Rattle.std.proofs.Math.Bool.{and-true, and-false}
use Rattle.text.specs.Ascii.{TAB}
use Rattle.std.proofs.lemmas.List.{take_all}
use Rattle.std.proofs.lemmas.List.Edits.{sets}
use Rattle.text.specs.Fields.{read_fields}
use Rattle.line.specs.Line.{kind_letter, start_letter, headed, unsigned, line_of, read_line, line_numbers}
use Rattle.line.specs.declared.Line.{Line}
use Rattle.line.proofs.LineTexts.{unsigned_inside}
use Rattle.line.proofs.read_line.Goals.{After-from_residual, then-not-is_kind-via-then-not-is_kind, then-not-is_kind-via-else-not-is_kind+then-not-is_start}
use Rattle.line.proofs.read_line.Goals as goal

short : (l : List ℕ) → length l < 3 → false ≡ headed l
unfolding headed
short [] h = refl
short (k ∷ []) h = refl
short (k ∷ t ∷ []) h = refl
short (k ∷ t ∷ z ∷ l) h = absurd (omega arith)

three : (l : List ℕ) → 3 ≤ length l → get_or l 1 0 ≡ TAB → (kind_letter (get_or l 0 0) && start_letter (get_or l 2 0)) ≡ headed l
unfolding headed
three [] h e = absurd (omega arith)
three (k ∷ []) h e = absurd (omega arith)
three (k ∷ t ∷ []) h e = absurd (omega arith)
three (k ∷ t ∷ z ∷ l) h e = rw (e, and-true (kind_letter k))

no_tab : (l : List ℕ) → 3 ≤ length l → (get_or l 1 0 ≡ TAB → ⊥) → false ≡ headed l
unfolding headed
no_tab [] h e = absurd (omega arith)
no_tab (k ∷ []) h e = absurd (omega arith)
no_tab (k ∷ t ∷ []) h e = absurd (omega arith)
no_tab (k ∷ t ∷ z ∷ l) h e = rw (ne_eqb t TAB e, and-false (kind_letter k))

-- the text of the numbers, as the code has it
after : (l : List ℕ) → take (length l - 3) (drop 3 l) ≡ drop 3 l
after l = take_all (length l - 3) (drop 3 l) (omega (arith, length-drop 3 l))

no_kind : (l : List ℕ) → 3 ≤ length l → get_or l 1 0 ≡ TAB → false ≡ kind_letter (get_or l 0 0) → false ≡ headed l
no_kind l h e k = ap (λ (b : Bool). b && start_letter (get_or l 2 0)) k ∙ three l h e

by_start : (l : List ℕ) (s : Bool) → 3 ≤ length l → get_or l 1 0 ≡ TAB → true ≡ kind_letter (get_or l 0 0)
    → s ≡ start_letter (get_or l 2 0) → s ≡ headed l
by_start l s h e k z = z ∙ ap (λ (b : Bool). b && start_letter (get_or l 2 0)) k ∙ three l h e

-- r and q are the answer and the buffer that the contract asks for, of the text l
abbrev Answers : List ℕ → List ℤ → Option Line → List ℤ → Type 0
Answers l o r q = (r ≡ read_line (length o) l) × (q ≡ sets o 0 (line_numbers (length o) l))

-- t is the text as the code has it
module _ (t l : List ℕ) (s : t ≡ l) (o : List ℤ) where
  -- m is the text of the numbers, x is how they ended, and q the buffer then
  on_head : (m : List ℕ) (x : Option ℕ) (q : List ℤ) → true ≡ headed t → m ≡ drop 3 t → x ≡ unsigned (read_fields (length o) m)
      → q ≡ sets o 0 (read_fields (length o) m).numbers → Answers l o (line_of (get_or t 0 0) (get_or t 2 0) x) q
  unfolding read_line line_numbers
  on_head m x q e f h g = (rw (← s, ← e, h, f), rw (← s, ← e, ← f) g)

  no_head : false ≡ headed t → Answers l o None o
  unfolding read_line line_numbers
  no_head e = (rw (← s, ← e), rw (← s, ← e))

pub returns-in_default-clause-value : goal.returns-in_default-clause-value
returns-in_default-clause-value c = (no_head _ _ c.rest-text.ensures c.args.out.now (short c.rest-text.result.now (omega arith))).0

pub returns-in_default-clause-out_after : goal.returns-in_default-clause-out_after
returns-in_default-clause-out_after c = (no_head _ _ c.rest-text.ensures c.args.out.now (short c.rest-text.result.now (omega arith))).1

pub returns-in_default-2-clause-value : goal.returns-in_default-2-clause-value
returns-in_default-2-clause-value c = (no_head _ _ c.rest-text.ensures c.args.out.now (no_tab c.rest-text.result.now (omega arith) (λ e. omega arith))).0

pub returns-in_default-2-clause-out_after : goal.returns-in_default-2-clause-out_after
returns-in_default-2-clause-out_after c = (no_head _ _ c.rest-text.ensures c.args.out.now (no_tab c.rest-text.result.now (omega arith) (λ e. omega arith))).1

no_letter : (c : goal.Joined-then-not-is_kind) → false ≡ headed c.rest-text.result.now
no_letter c = elim c.then-not-is_kind.branch [
  | then-not-is_kind-via-then-not-is_kind w ↦ no_kind c.rest-text.result.now (omega arith) (omega arith) w.if-not-is_kind.ensures
  | then-not-is_kind-via-else-not-is_kind+then-not-is_start w ↦ by_start c.rest-text.result.now false (omega arith) (omega arith) w.if-not-is_kind.ensures w.if-not-is_start.ensures
]

pub returns-then-not-is_kind-clause-value : goal.returns-then-not-is_kind-clause-value
returns-then-not-is_kind-clause-value c = (no_head _ _ c.rest-text.ensures c.args.out.now (no_letter c)).0

pub returns-then-not-is_kind-clause-out_after : goal.returns-then-not-is_kind-clause-out_after
returns-then-not-is_kind-clause-out_after c = (no_head _ _ c.rest-text.ensures c.args.out.now (no_letter c)).1

faulty : (c : After-from_residual) → Answers (drop c.args.at c.args.s.now) c.args.out.now None c.read_numbers.new.out
faulty c =
    on_head _ _ c.rest-text.ensures c.args.out.now _ None _
    (by_start c.rest-text.result.now true (omega arith) (omega arith) c.if-not-is_kind.ensures c.if-not-is_start.ensures) (after c.rest-text.result.now)
    c.in_err-count.ensures.value c.read_numbers.ensures.out_after

pub returns-in_err-count-clause-value : goal.returns-in_err-count-clause-value
returns-in_err-count-clause-value c = c.from_residual.ensures ∙ (faulty c).0

pub returns-in_err-count-clause-out_after : goal.returns-in_err-count-clause-out_after
returns-in_err-count-clause-out_after c = (faulty c).1

pub overflow_add-result : goal.overflow_add-result
overflow_add-result c =
    let t = c.rest-text.result.now in
    let m = ap (λ (l : List ℕ). unsigned (read_fields (length c.args.out.now) l)) (after t) in
    omega (arith, unsigned_inside (length c.args.out.now) (drop 3 t) _ (sym m ∙ sym c.in_ok-count.ensures.value), length-drop 3 t)

pub returns-clause-value : goal.returns-clause-value
returns-clause-value c =
    (on_head _ _ c.rest-text.ensures c.args.out.now _ (Some c.in_ok-count.count) _
    (by_start c.rest-text.result.now true (omega arith) (omega arith) c.if-not-is_kind.ensures c.if-not-is_start.ensures) (after c.rest-text.result.now)
    c.in_ok-count.ensures.value c.read_numbers.ensures.out_after).0

pub returns-clause-out_after : goal.returns-clause-out_after
returns-clause-out_after c =
    (on_head _ _ c.rest-text.ensures c.args.out.now _ (Some c.in_ok-count.count) _
    (by_start c.rest-text.result.now true (omega arith) (omega arith) c.if-not-is_kind.ensures c.if-not-is_start.ensures) (after c.rest-text.result.now)
    c.in_ok-count.ensures.value c.read_numbers.ensures.out_after).1
