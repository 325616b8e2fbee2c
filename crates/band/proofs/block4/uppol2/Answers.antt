use lib.IntN.{ℤ, pos, neg_ℤ, neg_ℤ-neg_ℤ}
use mathlib.Core.Bool.{Bool, true, false, cond}
use mathlib.Core.Path.{◌≡◌, refl}
use Rattle.fixed.specs.Number.{minus, clamp_z, same_sign, sat}
use Rattle.fixed.proofs.Signed.{clamped}
use Rattle.fixed.proofs.Wide.{add, at1, call, from16, lit, mul, neg, shr, to, wide}
use Rattle.fixed.proofs.Half.{ans, givesh, half, scales, signs2, thin, wide_h}
use Rattle.band.specs.Bounds.{a2_most}
use Rattle.band.proofs.block4.uppol2.Goals as goal

-- what is turned where the signs differ, turned once more
other : (x y w : ℤ) → neg_ℤ (cond (same_sign x y) w (neg_ℤ w)) ≡ cond (same_sign x y) (neg_ℤ w) w
other x y w = go (same_sign x y)
  where
    go : (b : Bool) → neg_ℤ (cond b w (neg_ℤ w)) ≡ cond b (neg_ℤ w) w
    go true = refl
    go false = neg_ℤ-neg_ℤ w

pub overflow_add-wd2 : goal.overflow_add-wd2
overflow_add-wd2 c =
    let wd2 = wide_h (ans c.saturate-wd2.ensures refl c.saturate-wd2.type_inv) in
    (add (shr wd2 7 tt) (call c.by_signs-wd3.ensures refl tt) tt).fits

pub overflow_add-wd2-2 : goal.overflow_add-wd2-2
overflow_add-wd2-2 c =
    let wd2 = wide_h (ans c.saturate-wd2.ensures refl c.saturate-wd2.type_inv) in
    (add (add (shr wd2 7 tt) (call c.by_signs-wd3.ensures refl tt) tt) (call c.scaled-leak.ensures refl tt) tt).fits

pub returns : goal.returns
returns c =
    let f = c.ranges in
    let g = c.args in
    let p0 = half f.p0 in
    let wd1 = ans c.saturate-wd1.ensures (at1 (mul (from16 f.a1) (lit (pos 4) tt) tt) sat) c.saturate-wd1.type_inv in
    let turned = call c.by_signs.ensures (signs2 p0 (half f.p1) (wide_h wd1)) tt in
    let wd2 = ans c.saturate-wd2.ensures (at1 (to (neg turned tt) (other g.p0 g.p1 _)) sat) c.saturate-wd2.type_inv in
    let wd3 = call c.by_signs-wd3.ensures (signs2 p0 (half f.p2) (lit (pos 128) tt)) tt in
    let leak = call c.scaled-leak.ensures (scales (half f.a2) (lit (pos 32512) tt)) tt in
    let v = add (add (shr (wide_h wd2) 7 tt) wd3 tt) leak tt in
    let e = call (clamped (minus a2_most) (pos a2_most) _ _ (record { le = tt }) c.clamp.ensures.value) (at1 v (clamp_z (minus a2_most) (pos a2_most))) tt in
    givesh (thin (wide e _ _ tt tt tt)) e.range
