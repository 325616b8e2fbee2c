-- Decoding, then encoding, returns every byte.
use mathlib.Core.Path.{◌≡◌, refl}
use Prim.Native.Nat.{ℕ, ◌<◌}
use Rattle.lookup.proofs.Table.{agree}
use Rattle.pcma.specs.Alaw.{ends, a_code, masked, a_byte, a_size, signed, a_value}

pub there_and_back : (b : ℕ) → b < 256 → a_byte (a_value b) ≡ b
unfolding ends a_code masked a_byte a_size signed a_value
there_and_back = agree (λ b. a_byte (a_value b)) (λ b. b) 256 refl
