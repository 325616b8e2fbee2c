-- G.711 mu-law (docs/RULES.md, "Mu-law"): the byte of a sample, and the value of a byte.
use Rattle.std.specs.Prelude.{cond, List, ℕ, zero, suc, ◌+◌, ◌-◌, ◌*◌, ◌/◌, ◌%◌, ◌^◌, min, leb, ltb, ℤ, pos, neg_ℤ, nat_abs}
use Rattle.std.specs.Int.Signed.{non_neg}
use Rattle.lookup.specs.Table.{from}

abbrev pub sign_bit : ℤ → ℕ
sign_bit z = cond (non_neg z) 0 0x80

-- the magnitude, cut to 32635, and 132 added
abbrev pub biased : ℤ → ℕ
biased z = min (nat_abs z) 32635 + 132

-- the place of the highest one bit of n, at most k: the largest whose power of two n reaches
abbrev pub highest : ℕ → ℕ → ℕ
highest zero n = 0
highest (suc k) n = cond (leb (2 ^ suc k) n) (suc k) (highest k n)

abbrev pub exponent : ℕ → ℕ
exponent m = highest 7 (m / 128)

abbrev pub mantissa : ℕ → ℕ
mantissa m = m / 2 ^ (exponent m + 3) % 16

-- the complement of sign, exponent and mantissa
unfoldable pub mu_byte : ℤ → ℕ
mu_byte z = 255 - (sign_bit z + 16 * exponent (biased z) + mantissa (biased z))

-- what the complement c of a byte stands for, without the sign
abbrev pub size : ℕ → ℕ
size c = (8 * (c % 16) + 132) * 2 ^ (c / 16 % 8) - 132

-- negated under the sign
abbrev pub signed : ℕ → ℤ
signed c = cond (ltb c 0x80) (pos (size c)) (neg_ℤ (pos (size c)))

unfoldable pub mu_value : ℕ → ℤ
mu_value b = signed (255 - b)

unfoldable pub exponents : List ℕ
exponents = from (highest 7) 0 256

unfoldable pub mu_values : List ℤ
mu_values = from mu_value 0 256
