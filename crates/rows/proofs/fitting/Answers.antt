use Rattle.rows.specs.Listing.{fitting_bytes}
use Rattle.rows.proofs.fitting.Goals as goal

pub returns : goal.returns
unfolding fitting_bytes
returns c = c.min.ensures
