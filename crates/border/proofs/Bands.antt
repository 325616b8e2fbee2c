-- An encoder and a decoder that were called from C alone: where the decoder's history is the bytes of the encoder's run from the same
-- start, their lines are restored to the same bands, whatever the two rates.
use Prim.Native.Nat.{ℕ}
use native.Mathlib.Omega.{arith}
use mathlib.Core.Path.{◌≡◌, refl}
use mathlib.Core.List.{List, []}
use lib.IntN.{ℤ}
use Rattle.band.specs.SameBands.{SameBands}
use Rattle.life.specs.Life.{begun}
use Rattle.life.proofs.Unbroken.{restored_from}
use Rattle.history.proofs.Bands as of-lives
use Rattle.calls.specs.G722.{restored, encoder_of, decoder_of}
use Rattle.border.specs.Lines.{run, Line, Workers}
use Rattle.border.specs.Encoding.{encoder_calls}
use Rattle.border.specs.Decoding.{decoder_calls}
use Rattle.border.proofs.Encoding.{encoder_call_laws}
use Rattle.border.proofs.Decoding.{decoder_call_laws}
use Rattle.border.proofs.Theorems.{encoder_lines, decoder_lines}

-- `encoder_of` and `decoder_of` are what the calls themselves restore a line to
agree : {line line' : List ℕ} {rate rate' start : ℕ} {xs : List ℤ} → Line encoder_calls line rate start xs → {bs : List ℕ}
    → Line decoder_calls line' rate' start bs → bs ≡ run encoder_calls rate start xs
    → SameBands (encoder_of line).session.filters (decoder_of line').session.filters
unfolding restored
agree e d is =
    of-lives.bands_agree
    (restored_from (begun 16000 0 (omega arith) (encoder_call_laws.starts 16000 0 (omega arith))) (encoder_lines.stands e))
    (restored_from (begun 16000 0 (omega arith) (decoder_call_laws.starts 16000 0 (omega arith))) (rw is at (decoder_lines.stands d)))

pub bands_agree : {line line' : List ℕ} {rate rate' start : ℕ} {xs : List ℤ} → Line encoder_calls line rate start xs
    → Line decoder_calls line' rate' start (run encoder_calls rate start xs)
    → SameBands (encoder_of line).session.filters (decoder_of line').session.filters
bands_agree e d = agree e d refl

-- the same where the decoder's history is the bytes that workers gave out, one after the other
pub workers_bands_agree : {line line' : List ℕ} {rate rate' start : ℕ} {xs : List ℤ} {bs : List ℕ} → Line encoder_calls line rate start xs
    → Workers encoder_calls rate start [] xs bs → Line decoder_calls line' rate' start bs
    → SameBands (encoder_of line).session.filters (decoder_of line').session.filters
workers_bands_agree e w d = agree e d (encoder_lines.workers w)
