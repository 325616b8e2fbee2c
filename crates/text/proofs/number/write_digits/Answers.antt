-- itoa writes the digits before a place, so that they begin at `at`.
use Rattle.std.proofs.Common.{◌≡◌, sym, ap, ◌∙◌, List, ◌++◌, append_assoc, ℕ, ◌+◌, ◌≤◌, length, take, drop, arith}
use Rattle.std.proofs.lemmas.List.{take-append-drop}
use Rattle.std.proofs.lemmas.List.Edits.{sets, sets-eq}
use Rattle.text.specs.Number.{digits}
use Rattle.text.proofs.Signed.{digits_is}
use Rattle.text.proofs.number.write_digits.Goals as goal

placed : (o q l : List ℕ) (at from end : ℕ) → at + length l ≤ length o → from ≡ at → end ≡ at + length l
    → drop from q ≡ l ++ drop end o → take from q ≡ take from o → q ≡ sets o at l
placed o q l at from end h i j e f =
    sym (take-append-drop at q)
    ∙ rw (← i, f, e, j, i) (sym (append_assoc (take at o) l (drop (at + length l) o)) ∙ sym (sets-eq l o at h))

pub write_digits-requires : goal.write_digits-requires
write_digits-requires c =
    let e = ap length (digits_is c.args.n c.ranges.n.fits) in
    (omega (arith, e, c.count_of.ensures), omega (arith, c.requires, c.count_of.ensures))

pub returns-clause-out_after : goal.returns-clause-out_after
returns-clause-out_after c =
    let e = digits_is c.args.n c.ranges.n.fits in
    let s = c.write_digits.ensures.start in
    placed c.args.out.now _ (digits c.args.n) c.args.at c.write_digits.result (c.args.at + c.count_of.result) c.requires
    (omega (arith, s, ap length e, c.count_of.ensures)) (ap (λ (k : ℕ). c.args.at + k) c.count_of.ensures)
    (c.write_digits.ensures.written ∙ ap (λ (l : List ℕ). l ++ drop (c.args.at + c.count_of.result) c.args.out.now) (sym e)) c.write_digits.ensures.before
