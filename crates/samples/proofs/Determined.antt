-- Each function's contract determines its result.
use mathlib.Core.Path.{refl}
use Rattle.answers.proofs.Determined.{Determined, one}
use Rattle.samples.proofs.sample.Kinds as sample-k
use Rattle.samples.proofs.sample.Reads as sample
use Rattle.samples.proofs.bits.Kinds as bits-k
use Rattle.samples.proofs.bits.Reads as bits
use Rattle.samples.proofs.encoding_outcome.Kinds as encoding-outcome-k
use Rattle.samples.proofs.encoding_outcome.Reads as encoding-outcome

pub sample_determined : Determined 0 sample-k.ps sample-k.r sample.Post (λ κs e. tt {0})
sample_determined κs a z z' e e' p q = (one p q, refl)

pub bits_determined : Determined 0 bits-k.ps bits-k.r bits.Post (λ κs e. tt {0})
bits_determined κs a z z' e e' p q = (one p q, refl)

pub encoding_outcome_determined : Determined 0 encoding-outcome-k.ps encoding-outcome-k.r encoding-outcome.Post (λ κs e. tt {0})
encoding_outcome_determined κs a z z' e e' p q = (one p q, refl)
