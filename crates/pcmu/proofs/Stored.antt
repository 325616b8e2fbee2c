-- The stored tables are the rules', entry by entry.
use mathlib.Core.Path.{◌≡◌, refl}
use Rattle.pcmu.specs.declared.tables.TheConstants.{VALUES, EXPONENTS}
use Rattle.pcmu.specs.Mulaw.{mu_values, mu_value, exponents}

pub values_are : VALUES ≡ mu_values
unfolding mu_values mu_value
values_are = refl

pub exponents_are : EXPONENTS ≡ exponents
unfolding exponents
exponents_are = refl
