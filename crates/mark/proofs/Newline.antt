-- A session's line has one newline, its last byte, whatever its numbers.
use Prim.Native.Nat.{ℕ}
use mathlib.Core.Path.{◌≡◌, refl}
use mathlib.Core.Bool.{true}
use lib.Dec.{eqb}
use Rattle.band.specs.declared.Filters.{Filters}
use Rattle.g722.specs.Session.{Encoder, Decoder}
use Rattle.text.specs.Newline.{OneLine}
use Rattle.text.proofs.Tests.{either}
use Rattle.line.specs.Letters.{letter_e, letter_d}
use Rattle.line.specs.Line.{kind_letter, start_letter}
use Rattle.line.proofs.Newline.{line_one_line}
use Rattle.mark.specs.Answer.{letter_of, line_of}
use Rattle.mark.specs.Marks.{encoder_line, decoder_line}

mark_one_line : (kind rate start position : ℕ) (f : Filters) → kind_letter kind ≡ true → OneLine (line_of kind rate start position f)
unfolding line_of letter_of
mark_one_line kind rate start position f k =
    line_one_line kind (letter_of start) _ k (either (λ z. start_letter z ≡ true) (eqb start 1) refl refl)

pub encoder_one_line : (s : Encoder) → OneLine (encoder_line s)
encoder_one_line s = mark_one_line letter_e s.rate s.start s.position s.filters refl

pub decoder_one_line : (s : Decoder) → OneLine (decoder_line s)
decoder_one_line s = mark_one_line letter_d s.rate s.start s.position s.filters refl
