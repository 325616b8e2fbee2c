-- Three bytes and the text of the numbers, stored from the front on, are the line.
use Rattle.std.proofs.Common.{◌≡◌, sym, ap, ◌∙◌, List, ◌++◌, ℕ, ◌+◌, ◌≤◌, ℤ, length, drop, set, length-set, arith}
use Rattle.std.proofs.lemmas.List.Edits.{sets}
use lib.Seq.{sets-eq}
use Rattle.text.specs.Ascii.{TAB}
use Rattle.text.specs.Fields.{fields_text}
use Rattle.line.specs.Line.{line_text}
use Rattle.line.proofs.LineTexts.{line_is, line_long}
use Rattle.line.proofs.write_line.Goals as goal

whole : (o : List ℕ) (k z : ℕ) (vs : List ℤ) (p : List ℕ) (r : ℕ) → length (line_text k z vs) ≤ length o → r ≡ 3 + length (fields_text vs)
    → p ≡ sets (set (set (set o 0 k) 1 TAB) 2 z) 3 (fields_text vs) → p ≡ line_text k z vs ++ drop r o
whole o k z vs p r h n e =
    let at : 0 + length (line_text k z vs) ≡ r = omega (arith, n, line_long k z vs) in
    e ∙ ap (sets o 0) (sym (line_is k z vs)) ∙ sets-eq (line_text k z vs) o 0 (omega arith)
    ∙ ap (λ (i : ℕ). line_text k z vs ++ drop i o) at

pub bounds-out-0 : goal.bounds-out-0
bounds-out-0 c = omega (arith, line_long c.args.kind c.args.start c.args.vs.now)

pub bounds-out-1 : goal.bounds-out-1
bounds-out-1 c = simp length-set (omega (arith, line_long c.args.kind c.args.start c.args.vs.now))

pub bounds-out-2 : goal.bounds-out-2
bounds-out-2 c = simp length-set (omega (arith, line_long c.args.kind c.args.start c.args.vs.now))

pub write_fields-requires : goal.write_fields-requires
write_fields-requires c = simp length-set (omega (arith, line_long c.args.kind c.args.start c.args.vs.now))

pub returns-clause-value : goal.returns-clause-value
returns-clause-value c = omega (arith, c.write_fields.ensures.value, line_long c.args.kind c.args.start c.args.vs.now)

pub returns-clause-out_after : goal.returns-clause-out_after
returns-clause-out_after c =
    let w = c.write_fields.ensures in
    whole c.args.out.now c.args.kind c.args.start c.args.vs.now _ _ c.requires w.value w.out_after
