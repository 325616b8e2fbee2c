-- Blocks 2, 3 and 5 of G.722: the inverse quantisers and the scale factors; and a band's update, the same at both ends.
use Rattle.std.specs.Prelude.{ℕ, ◌/◌, ◌%◌, ◌*◌, ◌^◌, ℤ, pos, nat_abs, ◌+ℤ◌, ◌*ℤ◌, get_or}
use Rattle.std.specs.Int.Signed.{shr_z}
use Rattle.fixed.specs.Number.{clamp_z, scaled_by}
use Rattle.band.specs.declared.Band.{Band}
use Rattle.band.specs.Tables.{QM4, QM2, QM6, WL, WH, RL42, RH2, ILB}
use Rattle.band.specs.Bounds.{low_nb_most, high_nb_most}
use Rattle.band.specs.Block4.{BLOCK4}

-- the difference that a code stands for at the scale factor det: the low band's from the upper four of its six bits, for the predictor
abbrev pub INVQAL : ℤ → ℕ → ℤ
INVQAL det ril = scaled_by det (get_or QM4 ril (pos 0))

-- the low band's from all six, for what a decoder gives out
abbrev pub INVQBL : ℤ → ℕ → ℤ
INVQBL det ilow = scaled_by det (get_or QM6 ilow (pos 0))

-- the high band's, for both
abbrev pub INVQAH : ℤ → ℕ → ℤ
INVQAH det ihigh = scaled_by det (get_or QM2 ihigh (pos 0))

-- the logarithm of the scale factor leaks and takes the code's step w
abbrev pub LOGSC : ℤ → ℤ → ℤ → ℤ
LOGSC most nb w = clamp_z (pos 0) most (shr_z (nb *ℤ pos 127) 128 +ℤ w)

abbrev pub LOGSCL : ℤ → ℕ → ℤ
LOGSCL nb ril = LOGSC (pos low_nb_most) nb (get_or WL (get_or RL42 ril 0) (pos 0))

abbrev pub LOGSCH : ℤ → ℕ → ℤ
LOGSCH nb ihigh = LOGSC (pos high_nb_most) nb (get_or WH (get_or RH2 ihigh 0) (pos 0))

-- the scale factor: 4 times the entry times 2 ^ (n / 2048 - base), rounded down before the 4
abbrev pub det_of : ℕ → ℕ → ℕ
det_of base n = 4 * (get_or ILB (n / 64 % 32) 0 * 2 ^ (n / 2048) / 2 ^ base)

abbrev pub SCALE : ℕ → ℤ → ℤ
SCALE base nb = pos (det_of base (nat_abs nb))

abbrev pub SCALEL : ℤ → ℤ
SCALEL = SCALE 8

abbrev pub SCALEH : ℤ → ℤ
SCALEH = SCALE 10

-- blocks 3 and 4, in either band and at either end: what a code and the difference d do to the band
abbrev pub updated : (ℤ → ℕ → ℤ) → (ℤ → ℤ) → Band → ℤ → ℕ → Band
updated log scale k d code = let nb = log k.nb code in BLOCK4 k d nb (scale nb)

-- blocks 2, 3 and 4: the old det scales the difference
unfoldable pub low_update : Band → ℕ → Band
low_update k ril = updated LOGSCL SCALEL k (INVQAL k.det ril) ril

unfoldable pub high_update : Band → ℕ → Band
high_update k ihigh = updated LOGSCH SCALEH k (INVQAH k.det ihigh) ihigh
