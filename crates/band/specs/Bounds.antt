-- The bounds of the filters (docs/RULES.md, "Bounds"), those that a type keeps included.
use Rattle.std.specs.Prelude.{ℕ, Bool, true, ◌&&◌, List, [], ◌∷◌, eqb, ℤ, pos, neg_ℤ, ◌-ℤ◌, length}
use Rattle.std.specs.Int.Signed.{le_z}
use Rattle.fixed.specs.Number.{minus}
use Rattle.band.specs.declared.Band.{Band}
use Rattle.band.specs.declared.Filters.{Filters}

-- the greatest a2, a1 together with a2, nb of the low and of the high band, det
abbrev pub a2_most : ℕ
a2_most = 12288

abbrev pub a1_and_a2_most : ℕ
a1_and_a2_most = 15360

abbrev pub low_nb_most : ℕ
low_nb_most = 18432

abbrev pub high_nb_most : ℕ
high_nb_most = 22528

abbrev pub det_most : ℕ
det_most = 16384

-- lo ≤ z ≤ hi
abbrev pub between : ℤ → ℤ → ℤ → Bool
between lo hi z = le_z lo z && le_z z hi

-- every number of the list lies in lo .. hi
unfoldable pub all_between : ℤ → ℤ → List ℤ → Bool
all_between lo hi [] = true
all_between lo hi (z ∷ zs) = between lo hi z && all_between lo hi zs

-- every number is one of 16 bits
abbrev pub all_words : List ℤ → Bool
all_words = all_between (minus 32768) (pos 32767)

-- all that a band has; the order says nothing here
abbrev pub numbers : Band → List ℤ
numbers k =
    k.s ∷ k.sp ∷ k.sz ∷ k.r1 ∷ k.r2 ∷ k.a1 ∷ k.a2 ∷ k.p1 ∷ k.p2
    ∷ k.d1 ∷ k.d2 ∷ k.d3 ∷ k.d4 ∷ k.d5 ∷ k.d6
    ∷ k.b1 ∷ k.b2 ∷ k.b3 ∷ k.b4 ∷ k.b5 ∷ k.b6 ∷ k.nb ∷ k.det ∷ []

-- nb_most is the greatest nb
unfoldable pub band_in_bounds : Band → ℤ → Bool
band_in_bounds k nb_most =
    let rest = pos a1_and_a2_most -ℤ k.a2 in
    all_words (numbers k)
    && (between (minus a2_most) (pos a2_most) k.a2
    && between (neg_ℤ rest) rest k.a1
    && between (pos 0) nb_most k.nb
    && between (pos 0) (pos det_most) k.det)

unfoldable pub filters_in_bounds : Filters → Bool
filters_in_bounds f =
    (eqb (length f.x) 24 && all_words f.x)
    && (band_in_bounds f.low (pos low_nb_most) && band_in_bounds f.high (pos high_nb_most))
