-- Block 4 of G.722: a band's predictor takes the difference d. Each definition has the name of its block.
use Rattle.std.specs.Prelude.{zero, suc, ℤ, pos, negsuc, neg_ℤ, ◌+ℤ◌, ◌-ℤ◌, ◌*ℤ◌, cond}
use Rattle.std.specs.Int.Signed.{shr_z}
use mathlib.Core.List.{List, [], ◌∷◌, foldr, zip_with}
use Rattle.fixed.specs.Number.{minus, sat, clamp_z, same_sign, scaled_by, tapped}
use Rattle.band.specs.declared.Band.{Band}
use Rattle.band.specs.Bounds.{a2_most, a1_and_a2_most}

-- the reconstructed signal, and the part of it that the zeros alone predict
abbrev pub RECONS : ℤ → ℤ → ℤ
RECONS s d = sat (s +ℤ d)

abbrev pub PARREC : ℤ → ℤ → ℤ
PARREC sz d = sat (sz +ℤ d)

-- the second pole coefficient moves by the signs of three p, and leaks
abbrev pub UPPOL2 : ℤ → ℤ → ℤ → ℤ → ℤ → ℤ
UPPOL2 a1 a2 p0 p1 p2 =
    let v = sat (a1 *ℤ pos 4) in
    let turned = sat (cond (same_sign p0 p1) (neg_ℤ v) v) in
    clamp_z (minus a2_most) (pos a2_most)
    (shr_z turned 128 +ℤ cond (same_sign p0 p2) (pos 128) (minus 128) +ℤ scaled_by a2 (pos 32512))

-- so does the first by the signs of two, within what is left beside ap2, which UPPOL2 gave
abbrev pub UPPOL1 : ℤ → ℤ → ℤ → ℤ → ℤ
UPPOL1 a1 ap2 p0 p1 =
    let m = sat (pos a1_and_a2_most -ℤ ap2) in
    clamp_z (neg_ℤ m) m (sat (cond (same_sign p0 p1) (pos 192) (minus 192) +ℤ scaled_by a1 (pos 32640)))

-- how far a zero coefficient moves: not at all where d is 0
abbrev pub gain : ℤ → ℤ
gain (pos zero) = pos 0
gain (pos (suc n)) = pos 128
gain (negsuc n) = pos 128

-- each of the six moves by the signs of d and of its own di, and leaks
abbrev pub UPZERO : ℤ → ℤ → ℤ → ℤ
UPZERO d di bi = sat (cond (same_sign di d) (gain d) (neg_ℤ (gain d)) +ℤ scaled_by bi (pos 32640))

-- the poles' part of the prediction, and the zeros'
abbrev pub FILTEP : ℤ → ℤ → ℤ → ℤ → ℤ
FILTEP a1 a2 r1 r2 = sat (tapped a1 r1 +ℤ tapped a2 r2)

abbrev pub total : List ℤ → ℤ
total = foldr ◌+ℤ◌ (pos 0)

abbrev pub FILTEZ : List ℤ → List ℤ → ℤ
FILTEZ bs ds = sat (total (zip_with tapped bs ds))

abbrev pub PREDIC : ℤ → ℤ → ℤ
PREDIC sp sz = sat (sp +ℤ sz)

-- the whole block on the band k, in the standard's order; nb and det come from block 3.
-- The record is DELAYA as well: r0, p0 and d stand before what was, and the oldest goes.
abbrev pub BLOCK4 : Band → ℤ → ℤ → ℤ → Band
BLOCK4 k d nb det =
    let r0 = RECONS k.s d in
    let p0 = PARREC k.sz d in
    let a2 = UPPOL2 k.a1 k.a2 p0 k.p1 k.p2 in
    let a1 = UPPOL1 k.a1 a2 p0 k.p1 in
    let b1 = UPZERO d k.d1 k.b1 in
    let b2 = UPZERO d k.d2 k.b2 in
    let b3 = UPZERO d k.d3 k.b3 in
    let b4 = UPZERO d k.d4 k.b4 in
    let b5 = UPZERO d k.d5 k.b5 in
    let b6 = UPZERO d k.d6 k.b6 in
    let sp = FILTEP a1 a2 r0 k.r1 in
    let sz = FILTEZ (b1 ∷ b2 ∷ b3 ∷ b4 ∷ b5 ∷ b6 ∷ []) (d ∷ k.d1 ∷ k.d2 ∷ k.d3 ∷ k.d4 ∷ k.d5 ∷ []) in
    record {
      s = PREDIC sp sz;
      sp = sp;
      sz = sz;
      r1 = r0;
      r2 = k.r1;
      a1 = a1;
      a2 = a2;
      p1 = p0;
      p2 = k.p1;
      d1 = d;
      d2 = k.d1;
      d3 = k.d2;
      d4 = k.d3;
      d5 = k.d4;
      d6 = k.d5;
      b1 = b1;
      b2 = b2;
      b3 = b3;
      b4 = b4;
      b5 = b5;
      b6 = b6;
      nb = nb;
      det = det;
    }
