-- A band's update keeps the bounds, whatever band of 16-bit numbers it is given.
use Prim.Native.Nat.{ℕ, ◌+◌, ◌*◌, zero-le}
use mathlib.Core.Bool.{true}
use mathlib.Core.List.{List}
use mathlib.Core.Path.{◌≡◌}
use lib.Dec.{T, leb, le→leb}
use lib.IntN.{ℤ, pos}
use lib.ListN.{get_or}
use Rattle.fixed.specs.Number.{minus, In, In16, sat, scaled_by}
use Rattle.fixed.proofs.Signed.{≤_trans, clamp_in, in_mul, in_shr, within}
use Rattle.fixed.proofs.Wide.{each_in, table}
use Rattle.band.specs.declared.Band.{Band}
use Rattle.band.specs.Tables.{QM4, QM2, WL, WH, RL42, RH2}
use Rattle.band.specs.Bounds.{a2_most, low_nb_most, high_nb_most, det_most, all_words, numbers, band_in_bounds}
use Rattle.band.specs.Block4.{BLOCK4, PARREC}
use Rattle.band.specs.Adapt.{LOGSC, SCALE, updated, low_update, high_update}
use Rattle.band.proofs.Boxes.{band_in, both, between_in, word_at}
use Rattle.band.proofs.Poles.{pole_in, pole_lit}
use Rattle.band.proofs.Scale.{det_in, nat_in}

pub sat_in : (v : ℤ) → In16 (sat v)
sat_in v = clamp_in (minus 32768) (pos 32767) v (record { le = tt })

module _ (top : ℤ) (k : Band) (d nb det : ℤ) (w : all_words (numbers k) ≡ true) (i : In16 d) (n : In (pos 0) top nb) (m : In16 nb)
    (h : In (pos 0) (pos det_most) det) where
  block4_in : band_in_bounds (BLOCK4 k d nb det) top ≡ true
  unfolding band_in_bounds
  block4_in =
      let a2 = clamp_in (minus a2_most) (pos a2_most) _ (record { le = tt }) in
      let a1 = pole_in k.a1 _ (PARREC k.sz d) k.p1 a2 in
      let old = word_at (numbers k) w in
      let words = band_in (BLOCK4 k d nb det)
      (sat_in _) (sat_in _) (sat_in _) (sat_in _) (old 3) (within _ _ (pole_lit _ a2 a1) tt tt) (within _ _ a2 tt tt) (sat_in _) (old 7)
      i (old 9) (old 10) (old 11) (old 12) (old 13) (sat_in _) (sat_in _) (sat_in _) (sat_in _) (sat_in _) (sat_in _)
      m (within _ _ h tt tt) in
      both words (both (both (both (between_in _ _ _ a2) (between_in _ _ _ a1)) (between_in _ _ _ n)) (between_in _ _ _ h))

word_of : {z : ℤ} (most : ℕ) → T (leb most 32767) → In (pos 0) (pos most) z → In16 z
word_of {z} most u n = record {
  low = ≤_trans (minus 32768) (pos 0) z (record { le = tt }) n.low;
  high = ≤_trans z (pos most) (pos 32767) n.high (record { le = u });
}

-- of either band: its greatest nb is 2048 times one more than its base
module _ (qm w : List ℤ) (r : List ℕ) (base : ℕ) (t : T (each_in (minus 32767) (pos 32767) qm)) (u : T (leb (2048 * (base + 1)) 32767)) where
  abbrev log : ℤ → ℕ → ℤ
  log nb code = LOGSC (pos (2048 * (base + 1))) nb (get_or w (get_or r code 0) (pos 0))

  update_in : (k : Band) → all_words (numbers k) ≡ true → (code : ℕ)
      → band_in_bounds (updated log (SCALE base) k (scaled_by k.det (get_or qm code (pos 0))) code) (pos (2048 * (base + 1))) ≡ true
  update_in k words code =
      let most = 2048 * (base + 1) in
      let n = clamp_in (pos 0) (pos most) _ (record { le = le→leb 0 most zero-le }) in
      let d = within _ _ (in_shr 15 (in_mul (word_at (numbers k) words 22) (table (minus 32767) (pos 32767) qm t code))) tt tt in
      block4_in (pos most) k _ _ _ words d n (word_of most u n) (det_in _ base (nat_in most _ n))

pub low_in : (k : Band) → all_words (numbers k) ≡ true → (ril : ℕ) → band_in_bounds (low_update k ril) (pos low_nb_most) ≡ true
unfolding low_update
low_in = update_in QM4 WL RL42 8 tt tt

pub high_in : (k : Band) → all_words (numbers k) ≡ true → (ihigh : ℕ) → band_in_bounds (high_update k ihigh) (pos high_nb_most) ≡ true
unfolding high_update
high_in = update_in QM2 WH RH2 10 tt tt
