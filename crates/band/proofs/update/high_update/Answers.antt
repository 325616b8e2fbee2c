use lib.Dec.{lit≤}
use lib.IntN.{pos}
use Rattle.fixed.specs.Number.{minus}
use Rattle.fixed.proofs.Wide.{asks, table, var}
use Rattle.band.specs.Tables.{WH}
use Rattle.band.proofs.update.high_update.Goals as goal

pub update-requires : goal.update-requires
update-requires c = (
  lit≤ tt,
  asks (var c.requires.1 tt) _ _ tt tt,
  asks (var (table (minus 32768) (pos 32767) WH tt _) tt) _ _ tt tt,
)
