-- A session's answer, of either kind, as a reply: docs/RULES.md's number and count.
use Rattle.answers.specs.declared.Answer.{Answer}
use Rattle.answers.specs.Outcomes.{number_of, count_of}
use Rattle.life.specs.Kind.{Reply}

abbrev pub reply_of : {S : Type 0} → Answer S → Reply S
reply_of a = record { number = number_of a.outcome; count = count_of a.outcome; session = a.session }
