-- What holds of every step: the bounds are kept, samples are of 16 bits and bytes below 256, both ends update the bands alike;
-- and the zero start's first two samples are 0.
use Prim.Native.Nat.{ℕ, ◌+◌, ◌*◌, ◌/◌, ◌%◌, ◌≤◌, ◌<◌}
use native.Mathlib.Omega.{arith}
use borrow.Author.Tests.{eq-eqb, eqb-true}
use mathlib.Core.Bool.{true, ◌&&◌}
use mathlib.Core.List.{List, [], zip_with}
use mathlib.Core.Path.{◌≡◌, sym, ap}
use lib.Dec.{eqb}
use lib.IntN.{ℤ, pos, ◌+ℤ◌, ◌-ℤ◌, zero-*ℤ}
use lib.ListN.{length, drop, get_or, length-append, length-drop, replicate}
use lib.Signed.{shr_z}
use Rattle.fixed.specs.Number.{minus, In, In16, clamp_z, scaled_by}
use Rattle.fixed.proofs.Signed.{clamp_in, within, in_add, in_neg}
use Rattle.band.specs.declared.Filters.{Filters}
use Rattle.band.specs.Tables.{QM6, QM2}
use Rattle.band.specs.Bounds.{low_nb_most, high_nb_most, all_words, numbers, band_in_bounds, filters_in_bounds}
use Rattle.band.specs.Fresh.{fresh_band, fresh_filters}
use Rattle.band.specs.Quantise.{SUBTRA, QUANTL, QUANTH}
use Rattle.band.specs.Adapt.{low_update, high_update}
use Rattle.band.proofs.Boxes.{both, left, right, no_words, more_words, words_drop, words_join}
use Rattle.band.proofs.Codes.{quantl_most, quanth_most}
use Rattle.band.proofs.Kept.{sat_in, low_in, high_in}
use Rattle.step.specs.Qmf.{taking, even_sum, odd_sum, received, xlow, xhigh}
use Rattle.step.specs.Step.{LIMIT, decode_step, encode_step}

-- ---- x
taking_words : (x : List ℤ) (a b : ℤ) → all_words x ≡ true → In16 a → In16 b → all_words (taking x a b) ≡ true
taking_words x a b e i j = words_join (drop 2 x) _ (words_drop 2 x e) (more_words a _ i (more_words b [] j no_words))

taking_long : (x : List ℤ) (a b : ℤ) → length x ≡ 24 → length (taking x a b) ≡ 24
taking_long x a b e = simp (length-append, length-drop) (omega arith)

taking_in : (x : List ℤ) (a b : ℤ) → (eqb (length x) 24 && all_words x) ≡ true → In16 a → In16 b
    → (eqb (length (taking x a b)) 24 && all_words (taking x a b)) ≡ true
taking_in x a b e i j =
    both (eq-eqb _ _ (taking_long x a b (eqb-true _ _ (left _ (all_words x) e)))) (taking_words x a b (right (eqb (length x) 24) _ e) i j)

-- ---- what the bounds of the filters say of their parts
module _ (f : Filters) (w : filters_in_bounds f ≡ true) where
  of_x : (eqb (length f.x) 24 && all_words f.x) ≡ true
  unfolding filters_in_bounds
  of_x = left (eqb (length f.x) 24 && all_words f.x) _ w

  of_bands : (band_in_bounds f.low (pos low_nb_most) && band_in_bounds f.high (pos high_nb_most)) ≡ true
  unfolding filters_in_bounds
  of_bands = right (eqb (length f.x) 24 && all_words f.x) _ w

  of_low : all_words (numbers f.low) ≡ true
  unfolding band_in_bounds
  of_low = left (all_words (numbers f.low)) _ (left (band_in_bounds f.low (pos low_nb_most)) _ of_bands)

  of_high : all_words (numbers f.high) ≡ true
  unfolding band_in_bounds
  of_high = left (all_words (numbers f.high)) _ (right (band_in_bounds f.low (pos low_nb_most)) _ of_bands)

limit_in : (v : ℤ) → In (minus 16384) (pos 16383) (LIMIT v)
limit_in v = clamp_in (minus 16384) (pos 16383) v (record { le = tt })

pub decode_sound : (f : Filters) (byte : ℕ) → filters_in_bounds f ≡ true
    → (filters_in_bounds (decode_step f byte).filters ≡ true) × In16 (decode_step f byte).first × In16 (decode_step f byte).second
unfolding decode_step filters_in_bounds
decode_sound f byte w =
    let low = limit_in _ in
    let high = limit_in _ in
    let x = taking_in f.x _ _ (of_x f w) (within _ _ (in_add low high) tt tt) (within _ _ (in_add low (in_neg high)) tt tt) in
    (both x (both (low_in f.low (of_low f w) _) (high_in f.high (of_high f w) _)), sat_in _, sat_in _)

-- ---- the byte that a pair of samples gives
abbrev sent_low : Filters → ℤ → ℤ → ℕ
sent_low f a b = QUANTL (SUBTRA (xlow (taking f.x a b)) f.low.s) f.low.det

abbrev sent_high : Filters → ℤ → ℤ → ℕ
sent_high f a b = QUANTH (SUBTRA (xhigh (taking f.x a b)) f.high.s) f.high.det

byte_below : (ihigh ilow : ℕ) → ihigh ≤ 3 → ilow ≤ 63 → 64 * ihigh + ilow < 256
byte_below ihigh ilow h l = omega arith

low_bits : (ihigh ilow : ℕ) → ilow ≤ 63 → (64 * ihigh + ilow) % 64 ≡ ilow
low_bits ihigh ilow l = omega arith

high_bits : (ihigh ilow : ℕ) → ilow ≤ 63 → (64 * ihigh + ilow) / 64 ≡ ihigh
high_bits ihigh ilow l = omega arith

pub encode_sound : (f : Filters) (a b : ℤ) → In16 a → In16 b → filters_in_bounds f ≡ true
    → (filters_in_bounds (encode_step f a b).filters ≡ true) × ((encode_step f a b).byte < 256)
unfolding encode_step filters_in_bounds
encode_sound f a b i j w = (
  both (taking_in f.x a b (of_x f w) i j) (both (low_in f.low (of_low f w) _) (high_in f.high (of_high f w) _)),
  byte_below (sent_high f a b) (sent_low f a b) (quanth_most _ _) (quantl_most _ _),
)

-- a pair is encoded and its byte decoded, by two ends whose bands were the same
pub steps_agree : (f g : Filters) (a b : ℤ) → f.low ≡ g.low → f.high ≡ g.high
    → ((encode_step f a b).filters.low ≡ (decode_step g (encode_step f a b).byte).filters.low)
    × ((encode_step f a b).filters.high ≡ (decode_step g (encode_step f a b).byte).filters.high)
unfolding encode_step decode_step
steps_agree f g a b l h = (
  λ t. low_update (l t) (sym (low_bits (sent_high f a b) (sent_low f a b) (quantl_most _ _)) t / 4),
  λ t. high_update (h t) (sym (high_bits (sent_high f a b) (sent_low f a b) (quantl_most _ _)) t),
)

-- ---- from the zero start every first byte decodes to 0 0, as det is 0
abbrev first_x : ℤ → ℤ → List ℤ
first_x dlow dhigh =
    let rlow = LIMIT (pos 0 +ℤ dlow) in
    let rhigh = LIMIT (pos 0 +ℤ dhigh) in
    taking (replicate 24 (pos 0)) (rlow +ℤ rhigh) (rlow -ℤ rhigh)

silent : (q : ℤ) → scaled_by (pos 0) q ≡ pos 0
silent q = ap (λ (z : ℤ). shr_z z 32768) (zero-*ℤ q)

pub first_pair_zero : (byte : ℕ) → byte < 256
    → ((decode_step (fresh_filters (pos 0) (pos 0)) byte).first ≡ pos 0) × ((decode_step (fresh_filters (pos 0) (pos 0)) byte).second ≡ pos 0)
unfolding decode_step fresh_filters fresh_band zip_with clamp_z
first_pair_zero byte h =
    let dlow = silent (get_or QM6 (byte % 64) (pos 0)) in
    let dhigh = silent (get_or QM2 (byte / 64) (pos 0)) in
    (λ t. received (even_sum (first_x (dlow t) (dhigh t))), λ t. received (odd_sum (first_x (dlow t) (dhigh t))))
