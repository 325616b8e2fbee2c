use borrow.Author.Rules.{rules}
use Prim.Native.Nat.{ℕ, ◌+◌, ◌*◌, ◌≤◌, zero-le}
use lib.Dec.{le→leb}
use lib.IntN.{pos, ◌+ℤ◌, ◌*ℤ◌}
use lib.ListN.{get_or}
use mathlib.Core.Bool.{true}
use mathlib.Core.Path.{◌≡◌, ◌∙◌}
use Rattle.fixed.specs.Number.{In}
use Rattle.fixed.proofs.Wide.{add, fits16_of, lit, mul, rd, read, var}
use Rattle.fixed.proofs.Half.{H, ans, h1, half, readh, scales}
use Rattle.band.specs.declared.Band.{Band}
use Rattle.band.specs.Bounds.{all_between, all_words, numbers}
use Rattle.band.specs.Block4.{BLOCK4}
use Rattle.band.specs.Adapt.{LOGSC, SCALE}
use Rattle.band.proofs.Boxes.{band_in, word_at, word_told}
use Rattle.band.proofs.update.update.Goals as goal

-- the band's number i, in the order of its bounds
field : (k : Band) → all_words (numbers k) ≡ true → (i : ℕ) → H (get_or (numbers k) i (pos 0)) (get_or (numbers k) i (pos 0))
field k words i = half (fits16_of (word_at (numbers k) words i))

-- the greatest nb, as the code computes it
most_is : {base : ℕ} → base ≤ 10 → rd (pos 2048 *ℤ rd (rd (pos base) +ℤ pos 1)) ≡ pos (2048 * (base + 1))
most_is {base} h =
    let least : In (pos 0) (pos 10) (pos base) = record { low = record { le = le→leb 0 base zero-le }; high = record { le = le→leb base 10 h } } in
    read (mul (lit (pos 2048) tt) (add (var least tt) (lit (pos 1) tt) tt) tt)

pub returns : goal.returns
unfolding all_between
returns c =
    let words : all_words (numbers c.args.band) ≡ true = search (rules, band_in, word_told) in
    let k = field c.args.band words in
    let q = var c.requires.1 tt in
    let w = var c.requires.2 tt in
    let nb = ans c.logsc-nb.ensures.is (λ t. LOGSC (most_is c.requires.0 t) (readh (k 21) t) (read w t)) c.logsc-nb.type_inv in
    let det = ans c.scale-det.ensures (h1 nb (SCALE c.args.base)) c.scale-det.type_inv in
    let d = ans c.invq-d.ensures (scales (k 22) q) c.invq-d.type_inv in
    c.block4.ensures ∙ λ t. BLOCK4 c.args.band (readh d t) (readh nb t) (readh det t)
