-- A piece leaves the rest of the bytes to be taken as before, and at the end nothing is left.
use Rattle.std.proofs.Common.{◌∙◌, arith, rules}
use Rattle.listing.proofs.Running.{more, ends}
use Rattle.listing.proofs.list_bytes.Goals as goal

pub loop-piece-preserved : goal.loop-piece-preserved
loop-piece-preserved g c =
    let steps = c.in-Some.ensures.steps in
    let w = c.loop-piece.invariant in
    record {
      can_next = search rules;
      is_finite = tt;
      size = steps.0 ∙ w.size;
      running = more w.running _ _ steps.1.0 (omega (arith, steps.1.1, w.size)) _ (omega (arith, c.loop-piece.auto.text, c.requires.room)) _ _ c.list-answer.ensures.answer;
    }

pub returns-clause-all : goal.returns-clause-all
returns-clause-all g c = ends c.loop-piece.invariant.running c.in-None.ensures.steps.1.0
