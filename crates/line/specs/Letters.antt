-- The letters of a mark line: E encodes, D decodes; Z is the zero start, S the standard one.
use Rattle.std.specs.Prelude.{ℕ}

abbrev pub letter_e : ℕ
letter_e = 69

abbrev pub letter_d : ℕ
letter_d = 68

abbrev pub letter_z : ℕ
letter_z = 90

abbrev pub letter_s : ℕ
letter_s = 83
