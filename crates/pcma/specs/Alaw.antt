-- G.711 A-law (docs/RULES.md, "A-law"): the byte of a sample, and the value of a byte.
use Rattle.std.specs.Prelude.{cond, List, [], ◌∷◌, ℕ, zero, suc, ◌+◌, ◌*◌, ◌/◌, ◌%◌, ◌^◌, leb, ltb, ℤ, pos, negsuc, neg_ℤ}
use Rattle.std.specs.Int.Bits.{bit_xor}
use Rattle.std.specs.Int.Signed.{shr_z}
use Rattle.lookup.specs.Table.{from}

unfoldable pub ends : List ℕ
ends = 31 ∷ 63 ∷ 127 ∷ 255 ∷ 511 ∷ 1023 ∷ 2047 ∷ 4095 ∷ []

-- the place of the first number that v does not exceed
abbrev pub first : List ℕ → ℕ → ℕ
first [] v = 0
first (e ∷ es) v = cond (leb v e) 0 (suc (first es v))

-- by the segment
abbrev pub low_bits : ℕ → ℕ → ℕ
low_bits zero v = v / 2 % 16
low_bits (suc zero) v = v / 2 % 16
low_bits (suc (suc k)) v = v / 2 ^ suc (suc k) % 16

unfoldable pub a_code : ℕ → ℕ
a_code v = 16 * first ends v + low_bits (first ends v) v

-- a negative v becomes -v - 1
unfoldable pub masked : ℤ → ℕ
masked (pos v) = bit_xor (a_code v) 0xD5
masked (negsuc v) = bit_xor (a_code v) 0x55

-- of a sample, v is floor(sample / 8)
unfoldable pub a_byte : ℤ → ℕ
a_byte z = masked (shr_z z 8)

-- by the segment
abbrev pub size_in : ℕ → ℕ → ℕ
size_in zero low = 16 * low + 8
size_in (suc zero) low = 16 * low + 264
size_in (suc (suc k)) low = (16 * low + 264) * 2 ^ suc k

unfoldable pub a_size : ℕ → ℕ
a_size a = size_in (a / 16 % 8) (a % 16)

-- negative when the top bit is clear
unfoldable pub signed : ℕ → ℤ
signed a = cond (ltb a 128) (neg_ℤ (pos (a_size a))) (pos (a_size a))

unfoldable pub a_value : ℕ → ℤ
a_value b = signed (bit_xor b 0x55)

unfoldable pub a_values : List ℤ
a_values = from a_value 0 256
