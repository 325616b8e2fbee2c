-- The two QMF filters of G.722 over the 24 filter numbers x.
use Rattle.std.specs.Prelude.{ℤ, pos, ◌*ℤ◌, ◌+ℤ◌, ◌-ℤ◌, drop}
use Rattle.std.specs.Int.Signed.{shr_z}
use mathlib.Core.List.{List, [], ◌∷◌, ◌++◌, reverse, zip_with}
use Rattle.fixed.specs.Number.{minus, sat, Is}
use Rattle.band.specs.Tables.{QMF_COEFFS}
use Rattle.band.specs.Block4.{total}

-- x moves down two places and takes a and b
abbrev pub taking : List ℤ → ℤ → ℤ → List ℤ
taking x a b = drop 2 x ++ (a ∷ b ∷ [])

-- the first number, the third, and so on
abbrev pub every_other : List ℤ → List ℤ
every_other [] = []
every_other (a ∷ []) = a ∷ []
every_other (a ∷ b ∷ xs) = a ∷ every_other xs

abbrev pub dot : List ℤ → List ℤ → ℤ
dot xs cs = total (zip_with ◌*ℤ◌ xs cs)

-- x0·C0 + x2·C1 + .. + x22·C11
abbrev pub odd_sum : List ℤ → ℤ
odd_sum x = dot (every_other x) QMF_COEFFS

-- x1·C11 + x3·C10 + .. + x23·C0
abbrev pub even_sum : List ℤ → ℤ
even_sum x = dot (every_other (drop 1 x)) (reverse QMF_COEFFS)

-- what is handed back as a sum v: no sum over numbers of 16 bits is greater than 32768 times 6482, the coefficients' sizes added up
abbrev pub IsSum : ℤ → ℤ → Type 0
IsSum v r = Is (minus 212402176) (pos 212402176) v r

-- the transmit filter: the low and the high band's sample
abbrev pub transmitted : ℤ → ℤ
transmitted sum = shr_z sum 16384

abbrev pub xlow : List ℤ → ℤ
xlow x = transmitted (even_sum x +ℤ odd_sum x)

abbrev pub xhigh : List ℤ → ℤ
xhigh x = transmitted (even_sum x -ℤ odd_sum x)

-- the receive filter: a decoder's sample
abbrev pub received : ℤ → ℤ
received sum = sat (shr_z sum 2048)
