use Prim.Native.Nat.{ℕ}
use lib.ListN.{get_or}
use mathlib.Core.Path.{◌∙◌, ap}
use Rattle.fixed.proofs.Half.{ans, h1, h2, half, negative}
use Rattle.fixed.proofs.Signed.{taken}
use Rattle.band.specs.Tables.{IHN, IHP}
use Rattle.band.specs.Quantise.{code_at, size, place_high}
use Rattle.band.proofs.quantise.quanth.Goals as goal

pub returns-then-eh-lt0 : goal.returns-then-eh-lt0
unfolding code_at
returns-then-eh-lt0 c =
    let p = place_high (size c.args.eh) c.args.det in
    let w = ans c.size_of.ensures (h1 (half c.ranges.eh) size) c.size_of.type_inv in
    let i = c.place_high-i.ensures.0 ∙ h2 w (half c.ranges.det) place_high in
    ap (λ (n : ℕ). get_or IHN n 0) i ∙ taken (get_or IHN p 0) (get_or IHP p 0) (negative c.ranges.eh c.if-eh-lt0.true)

pub returns-else-eh-lt0 : goal.returns-else-eh-lt0
unfolding code_at
returns-else-eh-lt0 c =
    let p = place_high (size c.args.eh) c.args.det in
    let w = ans c.size_of.ensures (h1 (half c.ranges.eh) size) c.size_of.type_inv in
    let i = c.place_high-i.ensures.0 ∙ h2 w (half c.ranges.det) place_high in
    ap (λ (n : ℕ). get_or IHP n 0) i ∙ taken (get_or IHN p 0) (get_or IHP p 0) (negative c.ranges.eh c.if-eh-lt0.false)
