-- The tables of the standard, entry by entry, one list each.
use Rattle.std.specs.Prelude.{ℕ, ℤ, pos, List, [], ◌∷◌}
use Rattle.fixed.specs.Number.{minus}

-- the quantisers' levels and codes
abbrev pub Q6 : List ℤ
Q6 =
    pos 0 ∷ pos 35 ∷ pos 72 ∷ pos 110 ∷ pos 150 ∷ pos 190 ∷ pos 233 ∷ pos 276 ∷ pos 323 ∷ pos 370 ∷ pos 422 ∷ pos 473 ∷ pos 530 ∷ pos 587
    ∷ pos 650 ∷ pos 714 ∷ pos 786 ∷ pos 858 ∷ pos 940 ∷ pos 1023 ∷ pos 1121 ∷ pos 1219 ∷ pos 1339 ∷ pos 1458 ∷ pos 1612 ∷ pos 1765
    ∷ pos 1980 ∷ pos 2195 ∷ pos 2557 ∷ pos 2919 ∷ pos 0 ∷ pos 0 ∷ []

abbrev pub ILN : List ℕ
ILN =
    0 ∷ 63 ∷ 62 ∷ 31 ∷ 30 ∷ 29 ∷ 28 ∷ 27 ∷ 26 ∷ 25 ∷ 24 ∷ 23 ∷ 22 ∷ 21 ∷ 20 ∷ 19 ∷ 18 ∷ 17 ∷ 16 ∷ 15 ∷ 14 ∷ 13 ∷ 12 ∷ 11 ∷ 10 ∷ 9 ∷ 8 ∷ 7
    ∷ 6 ∷ 5 ∷ 4 ∷ 0 ∷ []

abbrev pub ILP : List ℕ
ILP =
    0 ∷ 61 ∷ 60 ∷ 59 ∷ 58 ∷ 57 ∷ 56 ∷ 55 ∷ 54 ∷ 53 ∷ 52 ∷ 51 ∷ 50 ∷ 49 ∷ 48 ∷ 47 ∷ 46 ∷ 45 ∷ 44 ∷ 43 ∷ 42 ∷ 41 ∷ 40 ∷ 39 ∷ 38 ∷ 37 ∷ 36
    ∷ 35 ∷ 34 ∷ 33 ∷ 32 ∷ 0 ∷ []

abbrev pub IHN : List ℕ
IHN = 0 ∷ 1 ∷ 0 ∷ []

abbrev pub IHP : List ℕ
IHP = 0 ∷ 3 ∷ 2 ∷ []

-- the inverse quantisers
abbrev pub QM6 : List ℤ
QM6 =
    minus 136 ∷ minus 136 ∷ minus 136 ∷ minus 136 ∷ minus 24808 ∷ minus 21904 ∷ minus 19008 ∷ minus 16704 ∷ minus 14984
    ∷ minus 13512 ∷ minus 12280 ∷ minus 11192 ∷ minus 10232 ∷ minus 9360 ∷ minus 8576 ∷ minus 7856 ∷ minus 7192 ∷ minus 6576
    ∷ minus 6000 ∷ minus 5456 ∷ minus 4944 ∷ minus 4464 ∷ minus 4008 ∷ minus 3576 ∷ minus 3168 ∷ minus 2776 ∷ minus 2400
    ∷ minus 2032 ∷ minus 1688 ∷ minus 1360 ∷ minus 1040 ∷ minus 728 ∷ pos 24808 ∷ pos 21904 ∷ pos 19008 ∷ pos 16704 ∷ pos 14984
    ∷ pos 13512 ∷ pos 12280 ∷ pos 11192 ∷ pos 10232 ∷ pos 9360 ∷ pos 8576 ∷ pos 7856 ∷ pos 7192 ∷ pos 6576 ∷ pos 6000 ∷ pos 5456
    ∷ pos 4944 ∷ pos 4464 ∷ pos 4008 ∷ pos 3576 ∷ pos 3168 ∷ pos 2776 ∷ pos 2400 ∷ pos 2032 ∷ pos 1688 ∷ pos 1360 ∷ pos 1040 ∷ pos 728
    ∷ pos 432 ∷ pos 136 ∷ minus 432 ∷ minus 136 ∷ []

abbrev pub QM4 : List ℤ
QM4 =
    pos 0 ∷ minus 20456 ∷ minus 12896 ∷ minus 8968 ∷ minus 6288 ∷ minus 4240 ∷ minus 2584 ∷ minus 1200 ∷ pos 20456 ∷ pos 12896
    ∷ pos 8968 ∷ pos 6288 ∷ pos 4240 ∷ pos 2584 ∷ pos 1200 ∷ pos 0 ∷ []

abbrev pub QM2 : List ℤ
QM2 = minus 7408 ∷ minus 1616 ∷ pos 7408 ∷ pos 1616 ∷ []

-- the scale factors
abbrev pub WL : List ℤ
WL = minus 60 ∷ minus 30 ∷ pos 58 ∷ pos 172 ∷ pos 334 ∷ pos 538 ∷ pos 1198 ∷ pos 3042 ∷ []

abbrev pub RL42 : List ℕ
RL42 = 0 ∷ 7 ∷ 6 ∷ 5 ∷ 4 ∷ 3 ∷ 2 ∷ 1 ∷ 7 ∷ 6 ∷ 5 ∷ 4 ∷ 3 ∷ 2 ∷ 1 ∷ 0 ∷ []

abbrev pub WH : List ℤ
WH = pos 0 ∷ minus 214 ∷ pos 798 ∷ []

abbrev pub RH2 : List ℕ
RH2 = 2 ∷ 1 ∷ 2 ∷ 1 ∷ []

abbrev pub ILB : List ℕ
ILB =
    2048 ∷ 2093 ∷ 2139 ∷ 2186 ∷ 2233 ∷ 2282 ∷ 2332 ∷ 2383 ∷ 2435 ∷ 2489 ∷ 2543 ∷ 2599 ∷ 2656 ∷ 2714 ∷ 2774 ∷ 2834 ∷ 2896 ∷ 2960 ∷ 3025
    ∷ 3091 ∷ 3158 ∷ 3228 ∷ 3298 ∷ 3371 ∷ 3444 ∷ 3520 ∷ 3597 ∷ 3676 ∷ 3756 ∷ 3838 ∷ 3922 ∷ 4008 ∷ []

-- the coefficients of both QMF filters
abbrev pub QMF_COEFFS : List ℤ
QMF_COEFFS = pos 3 ∷ minus 11 ∷ pos 12 ∷ pos 32 ∷ minus 210 ∷ pos 951 ∷ pos 3876 ∷ minus 805 ∷ pos 362 ∷ minus 156 ∷ pos 53 ∷ minus 11 ∷ []
