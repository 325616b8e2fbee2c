-- The session that is begun can list.
use Rattle.rows.proofs.Stops.{ready_begun}
use Rattle.listing.proofs.main.Goals as goal

pub list_all-requires : goal.list_all-requires
list_all-requires c = rw c.begin.ensures ready_begun
