use Rattle.std.proofs.Common.{refl}
use Rattle.text.specs.Fields.{parted}
use Rattle.rows.specs.Text.{header_text}
use Rattle.rows.proofs.header.Goals as goal

pub returns : goal.returns
unfolding header_text parted
returns c = refl
