use borrow.Author.Rules.{rules}
use Rattle.band.specs.Fresh.{fresh_band}
use Rattle.band.proofs.Band.fresh.Goals as goal

pub returns : goal.returns
unfolding fresh_band
returns c = search rules
