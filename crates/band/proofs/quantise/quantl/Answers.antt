use Prim.Native.Nat.{ℕ}
use lib.ListN.{get_or}
use mathlib.Core.Path.{◌∙◌, ap}
use Rattle.fixed.proofs.Half.{ans, h1, h2, half, negative}
use Rattle.fixed.proofs.Signed.{taken}
use Rattle.band.specs.Tables.{ILN, ILP}
use Rattle.band.specs.Quantise.{code_at, size, place_low}
use Rattle.band.proofs.quantise.quantl.Goals as goal

pub returns-then-el-lt0 : goal.returns-then-el-lt0
unfolding code_at
returns-then-el-lt0 c =
    let p = place_low (size c.args.el) c.args.det in
    let w = ans c.size_of.ensures (h1 (half c.ranges.el) size) c.size_of.type_inv in
    let i = c.place_low-i.ensures.0 ∙ h2 w (half c.ranges.det) place_low in
    ap (λ (n : ℕ). get_or ILN n 0) i ∙ taken (get_or ILN p 0) (get_or ILP p 0) (negative c.ranges.el c.if-el-lt0.true)

pub returns-else-el-lt0 : goal.returns-else-el-lt0
unfolding code_at
returns-else-el-lt0 c =
    let p = place_low (size c.args.el) c.args.det in
    let w = ans c.size_of.ensures (h1 (half c.ranges.el) size) c.size_of.type_inv in
    let i = c.place_low-i.ensures.0 ∙ h2 w (half c.ranges.det) place_low in
    ap (λ (n : ℕ). get_or ILP n 0) i ∙ taken (get_or ILN p 0) (get_or ILP p 0) (negative c.ranges.el c.if-el-lt0.false)
