use Rattle.std.proofs.Common.{ap, ◌∙◌}
use Rattle.answers.specs.declared.Answer.{Answer}
use Rattle.g722.specs.declared.Session.{Session}
use Rattle.mark.specs.Marks.{restore_answer}
use Rattle.calls.specs.G722.{restored}
use Rattle.calls.proofs.restore.Goals as goal

pub returns : goal.returns
unfolding restored
returns g c =
    c.restore.ensures.answer ∙ ap (λ (b : Answer (Session _)). restore_answer g.K.Kind.letter b.session c.args.mark.now) c.begin.ensures
