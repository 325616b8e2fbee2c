-- The text is that of the digits, with a minus before them where there is one.
use Rattle.std.proofs.Common.{sym, ap, ◌∙◌, length, arith, to_z-of_z}
use Rattle.text.proofs.Digits.{count_le}
use Rattle.text.proofs.Signed.{text_plain, text_minus}
use Rattle.text.proofs.number.number_length.Goals as goal

pub overflow_add-result : goal.overflow_add-result
overflow_add-result c = omega (arith, c.count_of-count.ensures, count_le 19 c.unsigned_abs.result (omega arith))

pub returns-then-is_plain : goal.returns-then-is_plain
returns-then-is_plain c =
    let e = sym c.is_plain.ensures ∙ c.if-is_plain.true in
    c.count_of-count.ensures ∙ sym (ap length (text_plain c.args.v _ _ (to_z-of_z c.ranges.v) e c.unsigned_abs.ensures.value))

pub returns-else-is_plain : goal.returns-else-is_plain
returns-else-is_plain c =
    let e = sym c.is_plain.ensures ∙ c.if-is_plain.false in
    omega (arith, c.count_of-count.ensures, ap length (text_minus c.args.v _ _ (to_z-of_z c.ranges.v) e c.unsigned_abs.ensures.value))
