-- The segment and the low bits are the rule's.
use Rattle.std.proofs.Common.{refl}
use Rattle.pcma.specs.Alaw.{a_code}
use Rattle.pcma.proofs.code.Goals as goal

pub returns : goal.returns
unfolding a_code
returns c = rw (c.low_bits.ensures.value, c.segment-seg.ensures.value) refl
