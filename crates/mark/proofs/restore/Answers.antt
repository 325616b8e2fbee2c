use Rattle.std.proofs.Common.{sym, ap, ◌∙◌}
use Rattle.mark.proofs.Restoring.{answer_of, outside, restored}
use Rattle.mark.proofs.restore.Goals as goal
use Rattle.mark.proofs.restore.Goals.{then-in_bounds, else-in_bounds}

pub returns-in-Ok : goal.returns-in-Ok
returns-in-Ok g c =
    let of = answer_of g.K.Kind.letter c.args.session c.args.line.now in
    record {
      answer = ap of (sym c.in-Ok.is) ∙ elim c.if-in_bounds.branch [
        | then-in_bounds w ↦ restored g.K.Kind.letter c.args.session c.args.line.now (sym w.if-in_bounds.ensures) _ (w.read-is ∙ w.read-read.ensures)
        | else-in_bounds w ↦ ap of w.read-is ∙ outside g.K.Kind.letter c.args.session c.args.line.now (sym w.if-in_bounds.ensures)
      ];
    }

pub returns-in-Err : goal.returns-in-Err
returns-in-Err g c =
    let of = answer_of g.K.Kind.letter c.args.session c.args.line.now in
    record {
      answer = ap of (sym c.in-Err.is) ∙ elim c.if-in_bounds.branch [
        | then-in_bounds w ↦ restored g.K.Kind.letter c.args.session c.args.line.now (sym w.if-in_bounds.ensures) _ (w.read-is ∙ w.read-read.ensures)
        | else-in_bounds w ↦ ap of w.read-is ∙ outside g.K.Kind.letter c.args.session c.args.line.now (sym w.if-in_bounds.ensures)
      ];
    }
