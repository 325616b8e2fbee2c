use Rattle.std.proofs.Common.{◌≡◌, ℕ, List, ◌++◌, length, drop, Ok, sym, ap, ◌∙◌, arith}
use borrow.Author.Tests.{ltb-true, ltb-false}
use Rattle.std.specs.Prelude.{Err}
use Rattle.answers.specs.declared.Refusal.TheVariants.{NoRoom}
use Rattle.line.specs.Line.{line_text}
use Rattle.line.proofs.LineTexts.{line_long}
use Rattle.mark.specs.Answer.{letter_of, line_of}
use Rattle.mark.specs.Marks.{session_line}
use Rattle.mark.proofs.Short.{line_short}
use Rattle.mark.proofs.Writing.{Leaves, full, written}
use Rattle.mark.proofs.write_line.Given as given
use Rattle.mark.proofs.write_line.Goals as goal
use Rattle.mark.proofs.write_line.Goals.{After-numbers_of-numbers, Then-overfills, After-write_line-count}

-- the line of the numbers, by the session's own letters, is the session's
own : (g : given.Over) (c : After-numbers_of-numbers g)
    → line_text g.K.Kind.letter (letter_of c.args.session.start) c.numbers_of-numbers.result ≡ session_line g.K.Kind.letter c.args.session
unfolding line_of
own g c = ap (line_text g.K.Kind.letter (letter_of c.args.session.start)) c.numbers_of-numbers.ensures

pub overfills-requires-clause-short : goal.overfills-requires-clause-short
overfills-requires-clause-short g c kind start =
    let p = goal.at.overfills-requires-clause-short g c in
    let vs = c.numbers_of-numbers.result in
    let letter = letter_of c.args.session.start in
    let s = c.args.session in
    let short = line_short g.K.Kind.letter s.rate s.start s.position s.filters (omega arith) (sym c.if-not-in_bounds.ensures) in
    omega (arith, line_long kind start vs, line_long g.K.Kind.letter letter vs, ap length (own g p.After-numbers_of-numbers), short)

-- more than there is room for
more : (g : given.Over) (c : Then-overfills g) → Leaves g.K.Kind.letter c.args.session c.args.out.now (Err NoRoom) c.args.out.now
more g c =
    let p = goal.at.returns-then-overfills-clause-value g c in
    let letter = letter_of c.args.session.start in
    let long = ltb-true _ _ (sym (c.overfills.ensures g.K.Kind.letter letter) ∙ c.if-overfills.true) in
    full g.K.Kind.letter c.args.session c.args.out.now (sym c.if-not-in_bounds.ensures) (omega (arith, long, ap length (own g p.After-numbers_of-numbers)))

pub returns-then-overfills-clause-value : goal.returns-then-overfills-clause-value
returns-then-overfills-clause-value g c = (more g c).0

pub returns-then-overfills-clause-written : goal.returns-then-overfills-clause-written
returns-then-overfills-clause-written g c = (more g c).1

-- what is answered and left where the line is written
whole : (g : given.Over) (c : After-write_line-count g)
    → line_text g.K.Kind.letter (letter_of c.args.session.start) c.numbers_of-numbers.result ≡ session_line g.K.Kind.letter c.args.session
    → Leaves g.K.Kind.letter c.args.session c.args.out.now (Ok c.write_line-count.result) c.write_line-count.new.out
whole g c is =
    let w = c.write_line-count.ensures in
    let letter = letter_of c.args.session.start in
    let text : line_text c.letter.result c.letter_of.result c.numbers_of-numbers.result ≡ session_line g.K.Kind.letter c.args.session
    = (λ i. line_text (c.letter.ensures i) (c.letter_of.ensures i) c.numbers_of-numbers.result) ∙ is in
    let count = w.value ∙ ap length text in
    let room = ltb-false _ _ (sym (c.overfills.ensures g.K.Kind.letter letter) ∙ c.if-overfills.false) in
    written g.K.Kind.letter c.args.session c.args.out.now (sym c.if-not-in_bounds.ensures) count (omega (arith, count, ap length is, room))
    (w.out_after ∙ ap (λ (t : List ℕ). t ++ drop c.write_line-count.result c.args.out.now) text)

pub returns-clause-value : goal.returns-clause-value
returns-clause-value g c = let p = goal.at.returns-clause-value g c in (whole g p.After-write_line-count (own g p.After-numbers_of-numbers)).0

pub returns-clause-written : goal.returns-clause-written
returns-clause-written g c = let p = goal.at.returns-clause-written g c in (whole g p.After-write_line-count (own g p.After-numbers_of-numbers)).1
