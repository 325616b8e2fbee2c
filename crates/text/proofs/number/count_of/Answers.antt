-- The logarithm is one less than the count of digits; below ten there is one.
use Rattle.std.proofs.Common.{sym}
use Rattle.text.proofs.Digits.{count_one, count_is}
use Rattle.text.proofs.number.count_of.Goals as goal

pub returns-then-n-lt10 : goal.returns-then-n-lt10
returns-then-n-lt10 c = sym (count_one c.args.n c.if-n-lt10.true)

pub returns : goal.returns
returns c = sym (count_is c.ilog10.result c.args.n c.ilog10.ensures.power_le c.ilog10.ensures.next_power_gt)
