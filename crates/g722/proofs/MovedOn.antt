-- Laws of how far a call moves the position: by nothing, and by a sum.
use Prim.Native.Nat.{ℕ, ◌+◌}
use native.Mathlib.Omega.{arith}
use mathlib.Core.Bool.{false}
use mathlib.Core.Path.{◌≡◌, refl}
use Rattle.runs.specs.Rates.{odd_at}
use Rattle.runs.proofs.RateLaws.{no_samples, decode_room_cut}
use Rattle.g722.specs.Session.{encoder_moves, decoder_moves}

pub encoder_stays : (rate : ℕ) → encoder_moves rate 0 ≡ 0
unfolding encoder_moves
encoder_stays rate = refl

pub decoder_stays : (rate : ℕ) → decoder_moves rate 0 ≡ 0
unfolding decoder_moves
decoder_stays = no_samples

pub encoder_moves_cut : (rate m n : ℕ) → odd_at rate m ≡ false → encoder_moves rate (m + n) ≡ encoder_moves rate m + encoder_moves rate n
unfolding encoder_moves
encoder_moves_cut rate m n even = refl

pub decoder_moves_cut : (rate m n : ℕ) → decoder_moves rate (m + n) ≡ decoder_moves rate m + decoder_moves rate n
unfolding decoder_moves
decoder_moves_cut = decode_room_cut

pub on : (position k m n : ℕ) → k ≡ m + n → position + k ≡ position + m + n
on position k m n e = omega arith
