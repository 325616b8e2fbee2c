use borrow.Author.Rules.{sfits_of}
use lib.IntN.{ℤ, pos, ◌-ℤ◌}
use lib.Signed.{mag}
use mathlib.Core.Path.{◌≡◌, ◌∙◌}
use mir.Syntax.{w16}
use mir.Val.{SFits}
use Prim.Native.Nat.{◌<◌, ◌^◌}
use Rattle.fixed.specs.Number.{minus, clamp_z, sat}
use Rattle.fixed.proofs.Signed.{clamped, within}
use Rattle.fixed.proofs.Wide.{E, add, at1, at3, call, from16, le_asks, lit, narrow_is, neg, rd, sub}
use Rattle.fixed.proofs.Half.{H, ans, half, rh, scales, signs2, wide_h}
use Rattle.band.specs.Bounds.{a1_and_a2_most}
use Rattle.band.specs.Block4.{UPPOL1}
use Rattle.band.proofs.Poles.{limit_le, pole_in, pole_lit}
use Rattle.band.proofs.block4.uppol1.Goals as goal

-- the bound of a1
limit : {r ap2 : ℤ} → r ≡ sat (rd (pos a1_and_a2_most -ℤ rd (rh ap2))) → mag r < 2 ^ 15 → SFits w16 ap2 → H r (sat (pos a1_and_a2_most -ℤ ap2))
limit e m f = ans e (at1 (sub (lit (pos a1_and_a2_most) tt) (from16 f) tt) sat) m

pub clamp-requires : goal.clamp-requires
clamp-requires c =
    let most = wide_h (limit c.saturate-most.ensures c.saturate-most.type_inv c.ranges.ap2) in
    le_asks (neg most tt) most (limit_le _ c.requires)

pub returns : goal.returns
returns c =
    let s = c.args in
    let wd1 = call c.by_signs-wd1.ensures (signs2 (half c.ranges.p0) (half c.ranges.p1) (lit (pos 192) tt)) tt in
    let wd2 = call c.scaled-wd2.ensures (scales (half c.ranges.a1) (lit (pos 32640) tt)) tt in
    let wd3 = ans c.saturate-wd3.ensures (at1 (add wd1 wd2 tt) sat) c.saturate-wd3.type_inv in
    let most = wide_h (limit c.saturate-most.ensures c.saturate-most.type_inv c.ranges.ap2) in
    let clamped : E (minus 32768) (pos 32767) c.clamp.result (UPPOL1 s.a1 s.ap2 s.p0 s.p1) = record {
      is = (clamped _ _ _ _ (le_asks (neg most tt) most (limit_le _ c.requires)) c.clamp.ensures.value).is ∙ at3 (neg most tt) most (wide_h wd3) clamp_z;
      range = within _ _ (pole_lit _ c.requires (pole_in s.a1 s.ap2 s.p0 s.p1 c.requires)) tt tt;
      fits = sfits_of c.clamp.type_inv;
    } in
    narrow_is clamped
