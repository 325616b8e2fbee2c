use Rattle.std.proofs.Common.{◌≡◌, Some, refl, sym, ap, ◌∙◌}
use Rattle.line.specs.Line.{plain_two, read_line, line_numbers}
use Rattle.line.proofs.LineTexts.{line_read}
use Rattle.mark.specs.Answer.{number_count}
use Rattle.mark.specs.Reading.{said_by}
use Rattle.mark.proofs.Restoring.{numbers_read, no_line, not_whole, of_other_kind, line_said}
use Rattle.mark.proofs.reading.read.Given as given
use Rattle.mark.proofs.reading.read.Goals as goal
use Rattle.mark.proofs.reading.read.Goals.{In_ok-found}

pub returns-in_err-found : goal.returns-in_err-found
returns-in_err-found g c =
    let e = c.in_err-found.ensures in
    no_line g.K.Kind.letter c.args.text.now _ _ _ c.read_line.ensures.value e.ok_part e.value c.from_residual.ensures.1

-- what the reader found
found : (g : given.Over) (c : In_ok-found g) → read_line number_count c.args.text.now ≡ Some c.in_ok-found.found
found g c = sym c.read_line.ensures.value ∙ c.in_ok-found.ensures.ok_part

-- the numbers that it left
numbers : (g : given.Over) (c : In_ok-found g) → c.read_line.new.out ≡ line_numbers number_count c.args.text.now
numbers g c = c.read_line.ensures.out_after ∙ numbers_read _ _ _ refl (found g c)

pub returns-then-found-text : goal.returns-then-found-text
returns-then-found-text g c =
    let f = found g (goal.at.returns-then-found-text g c).In_ok-found in
    not_whole g.K.Kind.letter c.args.text.now _ f c.if-found-text.true

pub returns-then-found-letter : goal.returns-then-found-letter
returns-then-found-letter g c =
    let f = found g (goal.at.returns-then-found-letter g c).In_ok-found in
    let other : c.in_ok-found.found.kind ≡ c.letter.result → ⊥ = c.if-found-letter.true in
    of_other_kind g.K.Kind.letter c.args.text.now _ f c.if-found-text.false (λ e. other (e ∙ sym c.letter.ensures))

pub said_by-requires : goal.said_by-requires
said_by-requires g c =
    let i = (goal.at.said_by-requires g c).In_ok-found in
    ap plain_two (numbers g i) ∙ (line_read _ _ _ _ _ (found g i)).plain

pub returns : goal.returns
returns g c =
    let i = (goal.at.returns g c).In_ok-found in
    line_said g.K.Kind.letter c.args.text.now _ (found g i) c.if-found-text.false _ _ (c.if-found-letter.false ∙ c.letter.ensures)
    (c.said_by.ensures ∙ ap (said_by c.in_ok-found.found.start) (numbers g i)) c.ok_or-2.ensures.value
