-- Lines that are computed: lengths, lines that are read, and a table of texts that are malformed.
use mathlib.Core.Path.{◌≡◌, refl}
use mathlib.Core.List.{List, [], ◌∷◌, ◌++◌, map}
use Prim.Native.Nat.{ℕ}
use Rattle.std.specs.Prelude.{Some, None}
use lib.IntN.{ℤ, pos, negsuc}
use lib.ListN.{length, take, replicate}
use Rattle.text.specs.Ascii.{NEWLINE, MINUS, ZERO, NINE}
use Rattle.text.specs.Number.{digits_in, digits, decimal, begins, run, value, magnitude, read_number}
use Rattle.text.specs.Fields.{parted, read_field, read_fields}
use Rattle.line.specs.Letters.{letter_e, letter_d, letter_z, letter_s}
use Rattle.line.specs.Line.{line_text, headed, plain_two, unsigned, read_line, line_numbers}

-- ---- lengths

-- a fresh zero-start decoder at 16000
pub fresh_line : length (line_text letter_d letter_z (pos 16000 ∷ pos 0 ∷ replicate 70 (pos 0))) ≡ 152
unfolding line_text parted decimal digits digits_in
fresh_line = refl

-- the greatest rate and position; each other number is -12288, but nb 18432 and det 16384
abbrev band : List ℤ
band = replicate 21 (negsuc 12287) ++ (pos 18432 ∷ pos 16384 ∷ [])

abbrev longest : List ℤ
longest = pos 4294967295 ∷ pos 4294967295 ∷ replicate 24 (negsuc 12287) ++ (band ++ band)

pub longest_line : length (line_text letter_e letter_s longest) ≡ 512
unfolding line_text parted decimal digits digits_in
longest_line = refl

-- a line in the grammar can be longer
pub ten_digits : length (line_text letter_e letter_s (pos 9999999999 ∷ pos 9999999999 ∷ replicate 70 (negsuc 9999999998))) ≡ 866
unfolding line_text parted decimal digits digits_in
ten_digits = refl

-- ---- lines of three numbers

-- the fields of a line of decoders with the zero start
abbrev line : List ℕ → List ℕ → List ℕ → List ℕ
line rate position x = parted ((letter_d ∷ []) ∷ (letter_z ∷ []) ∷ rate ∷ position ∷ x ∷ [])

abbrev one : List ℕ
one = 49 ∷ []

-- 1, 1 and -9, with more text behind
pub read_three : read_line 3 (line one one (MINUS ∷ NINE ∷ []) ++ one) ≡ Some (record { kind = letter_d; start = letter_z; count = 11 })
unfolding parted read_line headed unsigned plain_two read_fields read_field begins read_number magnitude run value
read_three = refl

pub numbers_three : line_numbers 3 (line one one (MINUS ∷ NINE ∷ []) ++ one) ≡ pos 1 ∷ pos 1 ∷ negsuc 8 ∷ []
unfolding parted line_numbers headed read_fields read_field begins read_number magnitude run value
numbers_three = refl

-- ten digits are taken
pub ten_taken : read_line 3 (line (replicate 10 NINE) one one) ≡ Some (record { kind = letter_d; start = letter_z; count = 19 })
unfolding parted read_line headed unsigned plain_two read_fields read_field begins read_number magnitude run value
ten_taken = refl

abbrev PLUS : ℕ
PLUS = 43

abbrev SPACE : ℕ
SPACE = 32

abbrev RETURN : ℕ
RETURN = 13

abbrev zero_start_lem : List ℕ
zero_start_lem = letter_z ∷ []

abbrev malformed_texts : List (List ℕ)
malformed_texts =
    []
    ∷ (NEWLINE ∷ [])
    -- no newline; a carriage return, a space, a plus
    ∷ take 9 (line one one one)
    ∷ line one one (one ++ RETURN ∷ [])
    ∷ line one one (SPACE ∷ one)
    ∷ line one one (PLUS ∷ one)
    -- -0, leading zeros, no digits
    ∷ line one one (MINUS ∷ ZERO ∷ [])
    ∷ line one one (ZERO ∷ one)
    ∷ line one one (ZERO ∷ ZERO ∷ [])
    ∷ line one one (MINUS ∷ ZERO ∷ one)
    ∷ line one one (MINUS ∷ [])
    ∷ line one one []
    -- a minus on rate and on position; eleven digits
    ∷ line (MINUS ∷ one) one one
    ∷ line one (MINUS ∷ one) one
    ∷ line one one (replicate 11 NINE)
    ∷ line one one (MINUS ∷ replicate 11 NINE)
    -- letters: a start for a kind, a kind for a start, a small letter, two letters
    ∷ parted (zero_start_lem ∷ zero_start_lem ∷ one ∷ one ∷ one ∷ [])
    ∷ parted ((letter_d ∷ []) ∷ (letter_d ∷ []) ∷ one ∷ one ∷ one ∷ [])
    ∷ parted ((100 ∷ []) ∷ zero_start_lem ∷ one ∷ one ∷ one ∷ [])
    ∷ parted ((letter_d ∷ letter_d ∷ []) ∷ zero_start_lem ∷ one ∷ one ∷ one ∷ [])
    -- a field too few and one too many
    ∷ parted ((letter_d ∷ []) ∷ zero_start_lem ∷ one ∷ one ∷ [])
    ∷ parted ((letter_d ∷ []) ∷ zero_start_lem ∷ one ∷ one ∷ one ∷ one ∷ [])
    ∷ []

pub malformed_lines : map (read_line 3) malformed_texts ≡ replicate 22 None
unfolding parted read_line headed unsigned plain_two read_fields read_field begins read_number magnitude run value
malformed_lines = refl
