-- Every public call: two results that its contract allows are equal, and so are the outputs that they leave.
use mathlib.Core.Path.{refl}
use Rattle.answers.proofs.Determined.{Determined, one}
use Rattle.rows.proofs.header.Kinds as header-k
use Rattle.rows.proofs.header.Reads as header-r
use Rattle.rows.proofs.list.Kinds as list-k
use Rattle.rows.proofs.list.Reads as list-r
use Rattle.rows.proofs.fitting.Kinds as fitting-k
use Rattle.rows.proofs.fitting.Reads as fitting-r
use Rattle.rows.proofs.write_end.Kinds as end-k
use Rattle.rows.proofs.write_end.Reads as end-r

pub header : Determined 0 header-k.ps header-k.r header-r.Post (λ κs e. tt {0})
header κs a z z' e e' p q = (one p q, refl)

pub list : Determined 2 list-k.ps list-k.r list-r.Post (λ κs e. e.1.1.0.now)
list κs a z z' e e' p q = (one p.0 q.0, one p.1.0 q.1.0)

pub fitting : Determined 0 fitting-k.ps fitting-k.r fitting-r.Post (λ κs e. tt {0})
fitting κs a z z' e e' p q = (one p q, refl)

pub write_end : Determined 1 end-k.ps end-k.r end-r.Post (λ κs e. e.1.0.now)
write_end κs a z z' e e' p q = (one p.0 q.0, one p.1.0 q.1.0)
