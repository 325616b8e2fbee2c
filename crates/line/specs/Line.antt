-- A mark line (docs/RULES.md, "Mark lines") of n numbers: its text, reading one at the front of a text, and what it is that a
-- text begins with a line. Lines that stand behind it are not looked at.
use Rattle.std.specs.Prelude.{◌≡◌, Bool, true, false, cond, ◌&&◌, ◌||◌, Option, Some, None, List, [], ◌∷◌, ◌++◌, map, ℕ, ◌+◌, eqb, ℤ, pos, length, drop, get_or}
use Rattle.std.specs.Int.Signed.{non_neg}
use Rattle.text.specs.Ascii.{TAB}
use Rattle.text.specs.Number.{decimal}
use Rattle.text.specs.Fields.{parted, AllShort, Fields, read_fields}
use Rattle.line.specs.Letters.{letter_e, letter_d, letter_z, letter_s}
use Rattle.line.specs.declared.Line.{Line}

-- ---- writing

-- the fields are the two letters and the numbers
unfoldable pub line_text : ℕ → ℕ → List ℤ → List ℕ
line_text kind start vs = parted ((kind ∷ []) ∷ (start ∷ []) ∷ map decimal vs)

-- ---- reading

abbrev pub kind_letter : ℕ → Bool
kind_letter b = eqb b letter_e || eqb b letter_d

abbrev pub start_letter : ℕ → Bool
start_letter b = eqb b letter_z || eqb b letter_s

-- the text begins with two letters and a tab between them
unfoldable pub headed : List ℕ → Bool
headed (k ∷ t ∷ z ∷ l) = kind_letter k && eqb t TAB && start_letter z
headed (k ∷ t ∷ []) = false
headed (k ∷ []) = false
headed [] = false

-- rate and position, the first two numbers, carry no minus
unfoldable pub plain_two : List ℤ → Bool
plain_two vs = non_neg (get_or vs 0 (pos 0)) && non_neg (get_or vs 1 (pos 0))

unfoldable pub unsigned : Fields → Option ℕ
unsigned f = cond (plain_two f.numbers) f.ending None

-- a line whose numbers end after so many bytes; the letters and the tab before them are three
abbrev pub line_of : ℕ → ℕ → Option ℕ → Option Line
line_of kind start (Some count) = Some (record { kind = kind; start = start; count = count + 3 })
line_of kind start None = None

unfoldable pub read_line : ℕ → List ℕ → Option Line
read_line n l = cond (headed l) (line_of (get_or l 0 0) (get_or l 2 0) (unsigned (read_fields n (drop 3 l)))) None

-- the numbers that are read, where the line is malformed those before the fault
unfoldable pub line_numbers : ℕ → List ℕ → List ℤ
line_numbers n l = cond (headed l) (read_fields n (drop 3 l)).numbers []

-- ---- what reading has to do with writing

-- l begins with the line of these letters and n numbers, which takes count bytes
pub record LineOf (n : ℕ) (l : List ℕ) (kind start : ℕ) (vs : List ℤ) (count : ℕ) : Type 0 where
  pub kind_ok : kind_letter kind ≡ true
  pub start_ok : start_letter start ≡ true
  pub many : length vs ≡ n
  pub short : AllShort vs
  pub plain : plain_two vs ≡ true
  pub counted : count ≡ length (line_text kind start vs)
  pub text : l ≡ line_text kind start vs ++ drop count l

-- all of l is the line of two letters and n numbers in the grammar: nothing stands behind it
pub record WellFormed (n : ℕ) (l : List ℕ) : Type 0 where
  pub kind : ℕ
  pub start : ℕ
  pub numbers : List ℤ
  pub whole : LineOf n l kind start numbers (length l)
