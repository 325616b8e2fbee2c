use lib.IntN.{pos}
use mathlib.Core.Path.{◌∙◌}
use Rattle.fixed.specs.Number.{minus, clamp_z}
use Rattle.fixed.proofs.Signed.{clamp_in, clamped, ≤_trans}
use Rattle.fixed.proofs.Wide.{E, add, asks, at2, from16, lit, mul, shr, to, var}
use Rattle.fixed.proofs.Half.{givesh, thin}
use Rattle.band.proofs.adapt.logsc.Goals as goal

-- what the clamp hands back is at most `most`, a number of 16 bits
pub returns : goal.returns
returns c =
    let most = var c.requires.1 tt in
    let v = add (shr (mul (from16 c.ranges.nb) (lit (pos 127) tt) tt) 7 tt) (var c.requires.0 tt) tt in
    let r = clamped _ _ _ _ (asks most (pos 0) (pos 32767) tt tt).low c.clamp.ensures.value in
    let word : E (minus 32768) (pos 32767) _ _ =
    var (record { low = ≤_trans (minus 32768) _ _ (record { le = tt }) r.range.low; high = ≤_trans _ _ (pos 32767) r.range.high (asks most (pos 0) (pos 32767) tt tt).high }) tt in
    let is = r.is ∙ at2 most v (clamp_z (pos 0)) in
    givesh (thin (to word is)) (clamp_in (pos 0) c.args.most _ c.requires.1.low)
