-- The numbers of 16 bits, which are all but the first two of a session's line.
use Rattle.std.specs.Prelude.{List, [], ◌∷◌, ◌<◌, ℤ}
use Rattle.std.specs.Int.Signed.{mag}

-- in -32768 .. 32767
abbrev pub Word : ℤ → Type 0
Word v = mag v < 32768

abbrev pub AllWords : List ℤ → Type 0
AllWords [] = Unit {0}
AllWords (v ∷ vs) = Word v × AllWords vs
