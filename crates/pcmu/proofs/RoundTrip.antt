-- Decoding, then encoding, returns every byte but 0x7F, which gives 0xFF.
use mathlib.Core.Bool.{cond}
use mathlib.Core.Path.{◌≡◌, refl}
use Prim.Native.Nat.{ℕ, ◌<◌}
use lib.Dec.{eqb}
use Rattle.lookup.proofs.Table.{agree}
use Rattle.pcmu.specs.Mulaw.{mu_byte, mu_value}

pub there_and_back : (b : ℕ) → b < 256 → mu_byte (mu_value b) ≡ cond (eqb b 0x7F) 0xFF b
unfolding mu_byte mu_value
there_and_back = agree (λ b. mu_byte (mu_value b)) (λ b. cond (eqb b 0x7F) 0xFF b) 256 refl
