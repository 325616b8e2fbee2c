-- Decimal numbers as text (docs/RULES.md, "Mark lines"): no plus, no leading zero, no -0, at most ten digits.
-- First the text of a number, then reading one at the front of a text, then what it is that a text begins with a number.
use Rattle.std.specs.Prelude.{◌≡◌, Bool, false, cond, not, ◌&&◌, ◌||◌, Option, Some, None, List, [], ◌∷◌, ◌++◌, ℕ, zero, suc, ◌+◌, ◌-◌, ◌*◌, ◌/◌, ◌%◌, ◌^◌, ◌<◌, ltb, leb, eqb, ℤ, pos, negsuc, nat_abs, length, take, drop}
use Rattle.text.specs.Ascii.{MINUS, ZERO, NINE}
use Rattle.text.specs.declared.number.Parsed.{Parsed}

-- ---- writing

-- the digits of n, the highest first, found in so many steps at most
unfoldable pub digits_in : ℕ → ℕ → List ℕ
digits_in zero n = (ZERO + n) ∷ []
digits_in (suc steps) n = let more = digits_in steps (n / 10) ++ (ZERO + n % 10) ∷ [] in cond (ltb n 10) ((ZERO + n) ∷ []) more

-- n steps are always enough: `digits_one` and `digits_last` of proofs/Digits.antt are the equations to expect
unfoldable pub digits : ℕ → List ℕ
digits n = digits_in n n

-- the text of a number; negsuc n is -(n + 1)
unfoldable pub decimal : ℤ → List ℕ
decimal (pos n) = digits n
decimal (negsuc n) = MINUS ∷ digits (suc n)

-- a number of at most ten digits
abbrev pub Short : ℤ → Type 0
Short v = nat_abs v < 10 ^ 10

-- ---- reading

-- a number, and how many bytes its text takes; of the digits alone, the number that they say
abbrev pub Number : Type 0
Number = Parsed ℤ

abbrev pub Magnitude : Type 0
Magnitude = Parsed ℕ

-- the text begins with the byte b
unfoldable pub begins : ℕ → List ℕ → Bool
begins b [] = false
begins b (x ∷ l) = eqb x b

abbrev pub digit : ℕ → Bool
digit b = leb ZERO b && leb b NINE

unfoldable pub begins_digit : List ℕ → Bool
begins_digit [] = false
begins_digit (b ∷ l) = digit b

-- how many digits the text begins with
unfoldable pub run : List ℕ → ℕ
run [] = 0
run (b ∷ l) = let more = suc (run l) in cond (digit b) more 0

-- the number that some digits say, after those that said a
unfoldable pub value : ℕ → List ℕ → ℕ
value a [] = a
value a (b ∷ l) = value (a * 10 + (b - ZERO)) l

-- one to ten digits, and a zero in front only where it stands alone
abbrev pub allowed : ℕ → Bool → Bool
allowed count zeroFirst = ltb 0 count && leb count 10 && (eqb count 1 || not zeroFirst)

unfoldable pub magnitude : List ℕ → Option Magnitude
magnitude l = cond (allowed (run l) (begins ZERO l)) (Some (record { value = value 0 (take (run l) l); count = run l })) None

-- the digits with no minus before them, and with one: there is no -0
abbrev pub plain : Option Magnitude → Option Number
plain (Some m) = Some (record { value = pos m.value; count = m.count })
plain None = None

abbrev minus : ℕ → ℕ → Option Number
minus zero count = None
minus (suc n) count = Some (record { value = negsuc n; count = count + 1 })

abbrev pub negated : Option Magnitude → Option Number
negated (Some m) = minus m.value m.count
negated None = None

-- the number at the front of the text
unfoldable pub read_number : List ℕ → Option Number
read_number l = cond (begins MINUS l) (negated (magnitude (drop 1 l))) (plain (magnitude l))

-- ---- what reading has to do with writing

-- l begins with the text of v, which takes count bytes, and no digit follows it
pub record NumberOf (l : List ℕ) (v : ℤ) (count : ℕ) : Type 0 where
  pub short : Short v
  pub counted : count ≡ length (decimal v)
  pub text : l ≡ decimal v ++ drop count l
  pub stops : run (drop count l) ≡ 0
