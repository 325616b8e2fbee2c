-- The text is that of the digits, with a minus before them where there is one.
use Rattle.std.proofs.Common.{◌≡◌, sym, ap, ◌∙◌, ◌∷◌, length, length-set, add-one, arith, to_z-of_z}
use Rattle.text.specs.Ascii.{MINUS}
use Rattle.text.specs.Number.{digits, decimal}
use Rattle.text.proofs.Signed.{text_plain, text_minus}
use Rattle.text.proofs.number.write_number.Goals.{Then-is_plain, Else-is_plain}
use Rattle.text.proofs.number.write_number.Goals as goal

plain : (c : Then-is_plain) → decimal c.args.v ≡ digits c.unsigned_abs-n.result
plain c =
    text_plain c.args.v _ _ (to_z-of_z c.ranges.v) (sym c.is_plain.ensures ∙ c.if-is_plain.true) c.unsigned_abs-n.ensures.value

pub write_digits-requires : goal.write_digits-requires
write_digits-requires c = omega (arith, ap length (plain (goal.at.write_digits-requires c).Then-is_plain))

pub returns-then-is_plain-clause-value : goal.returns-then-is_plain-clause-value
returns-then-is_plain-clause-value c = rw (plain (goal.at.returns-then-is_plain-clause-value c).Then-is_plain) c.write_digits.ensures.value

pub returns-then-is_plain-clause-out_after : goal.returns-then-is_plain-clause-out_after
returns-then-is_plain-clause-out_after c = rw (plain (goal.at.returns-then-is_plain-clause-out_after c).Then-is_plain) c.write_digits.ensures.out_after

minus : (c : Else-is_plain) → decimal c.args.v ≡ MINUS ∷ digits c.unsigned_abs-n.result
minus c =
    text_minus c.args.v _ _ (to_z-of_z c.ranges.v) (sym c.is_plain.ensures ∙ c.if-is_plain.false) c.unsigned_abs-n.ensures.value

pub bounds-out-at : goal.bounds-out-at
bounds-out-at c = omega (arith, ap length (minus c))

pub write_digits-requires-2 : goal.write_digits-requires-2
write_digits-requires-2 c = simp length-set (omega (arith, ap length (minus (goal.at.write_digits-requires-2 c).Else-is_plain)))

pub returns-clause-value : goal.returns-clause-value
returns-clause-value c = rw (minus (goal.at.returns-clause-value c).Else-is_plain) (omega (arith, c.write_digits-2.ensures.value))

pub returns-clause-out_after : goal.returns-clause-out_after
returns-clause-out_after c = rw (minus (goal.at.returns-clause-out_after c).Else-is_plain) (rw add-one at c.write_digits-2.ensures.out_after)
