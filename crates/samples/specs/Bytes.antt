-- Samples as bytes: the low byte, then the high byte (docs/RULES.md, "Samples as bytes").
use Rattle.std.specs.Prelude.{cond, List, [], ◌∷◌, ℕ, suc, ◌+◌, ◌-◌, ◌*◌, ◌/◌, ◌%◌, ltb, ℤ, pos, negsuc, ◌-ℤ◌}

-- the sample of a low and a high byte: the number n of the two, or n - 65536 where n is not below 32768
abbrev pub sample_of : ℕ → ℕ → ℤ
sample_of lo hi = let n = lo + 256 * hi in cond (ltb n 32768) (pos n) (pos n -ℤ pos 65536)

-- the number of a sample's two bytes: 65536 more where it is negative; negsuc n is -(n + 1)
abbrev pub bits_of : ℤ → ℕ
bits_of (pos n) = n
bits_of (negsuc n) = 65536 - suc n

-- a byte left over at the end stands for no sample
abbrev pub samples : List ℕ → List ℤ
samples [] = []
samples (lo ∷ []) = []
samples (lo ∷ (hi ∷ bs)) = sample_of lo hi ∷ samples bs

abbrev pub bytes : List ℤ → List ℕ
bytes [] = []
bytes (z ∷ zs) = bits_of z % 256 ∷ (bits_of z / 256 ∷ bytes zs)
