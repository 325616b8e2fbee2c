use Rattle.rows.specs.Listing.{Ready}
use Rattle.listing.proofs.list_all.Given as goal

abbrev pub invariant-loop-turn : goal.invariant-loop-turn
invariant-loop-turn g l = Ready l.session 0
