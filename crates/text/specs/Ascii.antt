-- The bytes that have a meaning in a line, by their names.
use Rattle.std.specs.Prelude.{ℕ}

abbrev pub TAB : ℕ
TAB = 9

abbrev pub NEWLINE : ℕ
NEWLINE = 10

abbrev pub MINUS : ℕ
MINUS = 45

abbrev pub ZERO : ℕ
ZERO = 48

abbrev pub NINE : ℕ
NINE = 57
