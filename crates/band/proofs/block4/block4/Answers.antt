use borrow.Author.Rules.{rules}
use Prim.Native.Nat.{ℕ, ◌<◌, ◌^◌}
use lib.IntN.{ℤ, pos, ◌+ℤ◌}
use lib.ListN.{get_or}
use lib.Signed.{mag}
use mathlib.Core.Bool.{true}
use mathlib.Core.List.{[], ◌∷◌, zip_with}
use mathlib.Core.Path.{◌≡◌, ◌∙◌, ap}
use Rattle.fixed.specs.Number.{minus, sat, scaled_by, signed_by}
use Rattle.fixed.proofs.Signs.{twice_signed}
use Rattle.fixed.proofs.Wide.{E, call, fits16_of, rd, read}
use Rattle.fixed.proofs.Half.{H, ans, h1, h2, h4, h5, half, readh, rh}
use Rattle.band.specs.declared.Band.{Band}
use Rattle.band.specs.Bounds.{all_between, all_words, numbers}
use Rattle.band.specs.Block4.{FILTEP, FILTEZ, UPPOL1, UPPOL2, UPZERO, gain}
use Rattle.band.proofs.Boxes.{band_in, word_at, word_told}
use Rattle.band.proofs.block4.block4.Goals as goal

-- the band's number i, in the order of its bounds
field : (k : Band) → all_words (numbers k) ≡ true → (i : ℕ) → H (get_or (numbers k) i (pos 0)) (get_or (numbers k) i (pos 0))
field k words i = half (fits16_of (word_at (numbers k) words i))

-- a zero that a gain under both signs moves
zero : (d : ℤ) {g m di n bi r : ℤ} → E (minus 128) (pos 128) g (signed_by d (gain d)) → H m di → H n bi
    → r ≡ sat (signed_by (rh m) (rd g) +ℤ scaled_by (rh n) (pos 32640)) → mag r < 2 ^ 15 → H r (UPZERO d di bi)
zero d {di = di} {bi = bi} g h k e f =
    let by-rule = ap (λ (v : ℤ). sat (v +ℤ scaled_by bi (pos 32640))) (twice_signed di d (gain d)) in
    ans e ((λ t. sat (signed_by (readh h t) (read g t) +ℤ scaled_by (readh k t) (pos 32640))) ∙ by-rule) f

pub returns : goal.returns
unfolding zip_with all_between
returns c =
    let words : all_words (numbers c.args.band) ≡ true = search (rules, band_in, word_told) in
    let k = field c.args.band words in
    let d = half c.ranges.d in
    let r0 = ans c.plus-r0.ensures (h2 (k 0) d (λ (a b : ℤ). sat (a +ℤ b))) c.plus-r0.type_inv in
    let p0 = ans c.plus-p0.ensures (h2 (k 2) d (λ (a b : ℤ). sat (a +ℤ b))) c.plus-p0.type_inv in
    let a2 = ans c.uppol2-a2.ensures.is (h5 (k 5) (k 6) p0 (k 7) (k 8) UPPOL2) c.uppol2-a2.type_inv in
    let a1 = ans c.uppol1-a1.ensures (h4 (k 5) a2 p0 (k 7) UPPOL1) c.uppol1-a1.type_inv in
    let g = call c.signed_gain-gain.ensures (h1 d (λ (v : ℤ). signed_by v (gain v))) tt in
    let b1 = zero c.args.d g (k 9) (k 15) c.upzero-b1.ensures c.upzero-b1.type_inv in
    let b2 = zero c.args.d g (k 10) (k 16) c.upzero-b2.ensures c.upzero-b2.type_inv in
    let b3 = zero c.args.d g (k 11) (k 17) c.upzero-b3.ensures c.upzero-b3.type_inv in
    let b4 = zero c.args.d g (k 12) (k 18) c.upzero-b4.ensures c.upzero-b4.type_inv in
    let b5 = zero c.args.d g (k 13) (k 19) c.upzero-b5.ensures c.upzero-b5.type_inv in
    let b6 = zero c.args.d g (k 14) (k 20) c.upzero-b6.ensures c.upzero-b6.type_inv in
    let sp = ans c.filtep-sp.ensures (h4 a1 a2 r0 (k 3) FILTEP) c.filtep-sp.type_inv in
    let sz = ans c.filtez-sz.ensures (λ t.
    FILTEZ (readh b1 t ∷ readh b2 t ∷ readh b3 t ∷ readh b4 t ∷ readh b5 t ∷ readh b6 t ∷ [])
    (readh d t ∷ readh (k 9) t ∷ readh (k 10) t ∷ readh (k 11) t ∷ readh (k 12) t ∷ readh (k 13) t ∷ [])) c.filtez-sz.type_inv in
    let s = ans c.plus-s.ensures (h2 sp sz (λ (a b : ℤ). sat (a +ℤ b))) c.plus-s.type_inv in
    λ t. record {
      s = readh s t;
      sp = readh sp t;
      sz = readh sz t;
      r1 = readh r0 t;
      r2 = readh (k 3) t;
      a1 = readh a1 t;
      a2 = readh a2 t;
      p1 = readh p0 t;
      p2 = readh (k 7) t;
      d1 = readh d t;
      d2 = readh (k 9) t;
      d3 = readh (k 10) t;
      d4 = readh (k 11) t;
      d5 = readh (k 12) t;
      d6 = readh (k 13) t;
      b1 = readh b1 t;
      b2 = readh b2 t;
      b3 = readh b3 t;
      b4 = readh b4 t;
      b5 = readh b5 t;
      b6 = readh b6 t;
      nb = readh (half c.ranges.nb) t;
      det = readh (half c.ranges.det) t;
    }
