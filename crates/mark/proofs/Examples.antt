-- The line of a fresh session, computed.
use mathlib.Core.Path.{◌≡◌, refl}
use mathlib.Core.List.{[], ◌∷◌}
use lib.ListN.{replicate}
use Rattle.band.specs.Fresh.{fresh_band, fresh_filters}
use Rattle.g722.specs.Session.{start_begun, fresh_at, begun}
use Rattle.text.specs.Number.{digits_in, digits, decimal}
use Rattle.text.specs.Fields.{parted}
use Rattle.line.specs.Line.{line_text}
use Rattle.mark.specs.Numbers.{filters_numbers}
use Rattle.mark.specs.Answer.{letter_of, line_of}
use Rattle.mark.specs.Marks.{decoder_line}

-- a fresh decoder at 16000 from the zero start: D, Z, 16000, 0 and seventy 0 fields
pub fresh_line : decoder_line (begun 16000 0).session
    ≡ parted ((68 ∷ []) ∷ (90 ∷ []) ∷ (49 ∷ 54 ∷ 48 ∷ 48 ∷ 48 ∷ []) ∷ (48 ∷ []) ∷ replicate 70 (48 ∷ []))
unfolding begun start_begun fresh_at fresh_filters fresh_band line_of letter_of filters_numbers line_text decimal digits digits_in parted
fresh_line = refl
