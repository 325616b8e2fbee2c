-- An encoder and a decoder agree where both bands of the one are those of the other, number for number.
use Rattle.std.specs.Prelude.{◌≡◌}
use Rattle.band.specs.declared.Filters.{Filters}

pub record SameBands (f g : Filters) : Type 0 where
  pub low : f.low ≡ g.low
  pub high : f.high ≡ g.high
