-- The stored table is the rule's, entry by entry.
use mathlib.Core.Path.{◌≡◌, refl}
use Rattle.pcma.specs.declared.tables.TheConstants.{VALUES}
use Rattle.pcma.specs.Alaw.{a_values, a_value, signed, a_size}

pub values_are : VALUES ≡ a_values
unfolding a_values a_value signed a_size
values_are = refl
