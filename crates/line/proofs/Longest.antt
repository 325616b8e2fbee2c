-- How long a session's line can be: rate and position have at most ten digits, each other number is of 16 bits, and nb and det
-- of the two bands carry no minus: 512 bytes. `Examples.antt` has a line that reaches them.
use mathlib.Core.Path.{◌≡◌, refl}
use mathlib.Core.List.{List, [], ◌∷◌, ◌++◌}
use Prim.Native.Nat.{ℕ, suc, ◌+◌, ◌*◌, ◌^◌, ◌≤◌, ◌<◌}
use native.Mathlib.Omega.{arith}
use lib.IntN.{ℤ, pos, negsuc}
use lib.ListN.{length, length-append}
use Rattle.text.specs.Number.{decimal}
use Rattle.text.specs.Fields.{fields_text, AllShort}
use Rattle.text.proofs.Digits.{count_le}
use Rattle.line.specs.Bounds.{Word, AllWords}
use Rattle.line.specs.Line.{line_text}
use Rattle.line.proofs.LineTexts.{line_long}

-- the bytes of some numbers, each with its tab
abbrev pub bytes : List ℤ → ℕ
bytes [] = 0
bytes (v ∷ vs) = suc (length (decimal v)) + bytes vs

pub fields_bytes : (vs : List ℤ) → length (fields_text vs) ≡ bytes vs + 1
unfolding fields_text
fields_bytes [] = refl
fields_bytes (v ∷ vs) = omega (arith, length-append (decimal v) (fields_text vs), fields_bytes vs)

pub bytes-append : (vs ws : List ℤ) → bytes (vs ++ ws) ≡ bytes vs + bytes ws
bytes-append [] ws = omega arith
bytes-append (v ∷ vs) ws = omega (arith, bytes-append vs ws)

-- ---- a number

pub digits_le : (k n : ℕ) → n < 10 ^ suc k → length (decimal (pos n)) ≤ suc k
unfolding decimal
digits_le k n h = count_le k n h

word_le : (v : ℤ) → Word v → length (decimal v) ≤ 6
unfolding decimal
word_le (pos n) h = omega (arith, count_le 4 n (omega arith))
word_le (negsuc n) h = omega (arith, count_le 4 (suc n) (omega arith))

-- ---- some numbers

pub words_le : (vs : List ℤ) → AllWords vs → bytes vs ≤ 7 * length vs
words_le [] a = omega arith
words_le (v ∷ vs) a = omega (arith, word_le v a.0, words_le vs a.1)

-- 21 words, then nb and det
pub band_le : (b : List ℤ) (nb det : ℕ) → AllWords b → length b ≡ 21 → nb < 32768 → det < 32768
    → bytes (b ++ (pos nb ∷ pos det ∷ [])) ≤ 159
band_le b nb det a n hn hd =
    omega (
      arith,
      bytes-append b (pos nb ∷ pos det ∷ []),
      words_le b a,
      digits_le 4 nb (omega arith),
      digits_le 4 det (omega arith),
    )

-- ---- a line: rate, position, 24 numbers x and two bands

pub line_le : (kind start rate position : ℕ) (x low high : List ℤ) → rate < 10 ^ 10 → position < 10 ^ 10 → AllWords x → length x ≡ 24
    → bytes low ≤ 159 → bytes high ≤ 159 → length (line_text kind start (pos rate ∷ pos position ∷ (x ++ (low ++ high)))) ≤ 512
line_le kind start rate position x low high hr hp a n hl hh =
    omega (
      arith,
      line_long kind start (pos rate ∷ pos position ∷ (x ++ (low ++ high))),
      fields_bytes (pos rate ∷ pos position ∷ (x ++ (low ++ high))),
      digits_le 9 rate hr,
      digits_le 9 position hp,
      bytes-append x (low ++ high),
      bytes-append low high,
      words_le x a,
    )

-- ---- such numbers have at most ten digits

pub short_append : (vs ws : List ℤ) → AllShort vs → AllShort ws → AllShort (vs ++ ws)
short_append [] ws a b = b
short_append (v ∷ vs) ws a b = (a.0, short_append vs ws a.1 b)

pub words_short : (vs : List ℤ) → AllWords vs → AllShort vs
words_short [] a = tt
words_short (pos n ∷ vs) a = (omega (arith, a.0), words_short vs a.1)
words_short (negsuc n ∷ vs) a = (omega (arith, a.0), words_short vs a.1)
