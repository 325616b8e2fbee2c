-- What the contracts of the exported calls allow is what `encoder_calls` and `decoder_calls` say, so border's lines are the lines of C callers.
use mathlib.Core.Path.{◌≡◌}
use Rattle.history.proofs.Contracts.{Says}
use Rattle.calls_c.proofs.rozimaha_g722_encode.Kinds as encode-k
use Rattle.calls_c.proofs.rozimaha_g722_encode.Reads as encode
use Rattle.calls_c.proofs.rozimaha_g722_decode.Kinds as decode-k
use Rattle.calls_c.proofs.rozimaha_g722_decode.Reads as decode
use Rattle.calls_c.proofs.rozimaha_g722_begin_encoder.Kinds as begin-encoder-k
use Rattle.calls_c.proofs.rozimaha_g722_begin_encoder.Reads as begin-encoder
use Rattle.calls_c.proofs.rozimaha_g722_begin_decoder.Kinds as begin-decoder-k
use Rattle.calls_c.proofs.rozimaha_g722_begin_decoder.Reads as begin-decoder
use Rattle.border.specs.Encoding.{encoder_calls}
use Rattle.border.specs.Decoding.{decoder_calls}

pub encoder_begins : Says 1 begin-encoder-k.ps begin-encoder-k.r begin-encoder.Post (λ κs a z e.
    (z ≡ encoder_calls.begin_number a.0 a.1.0 a.1.1.0.now)
    × (e.1.1.0.now ≡ encoder_calls.begin_mark a.0 a.1.0 a.1.1.0.now))
encoder_begins κs a z e p = p

pub decoder_begins : Says 1 begin-decoder-k.ps begin-decoder-k.r begin-decoder.Post (λ κs a z e.
    (z ≡ decoder_calls.begin_number a.0 a.1.0 a.1.1.0.now)
    × (e.1.1.0.now ≡ decoder_calls.begin_mark a.0 a.1.0 a.1.1.0.now))
decoder_begins κs a z e p = p

pub encoder_codes : Says 4 encode-k.ps encode-k.r encode.Post (λ κs a z e.
    (z ≡ encoder_calls.number a.0.now a.1.0.now a.1.1.0.now a.1.1.1.0.now)
    × ((e.1.1.0.now ≡ encoder_calls.out a.0.now a.1.0.now a.1.1.0.now a.1.1.1.0.now)
    × (e.1.1.1.0.now ≡ encoder_calls.mark a.0.now a.1.0.now a.1.1.0.now a.1.1.1.0.now)))
encoder_codes κs a z e p = p

pub decoder_codes : Says 4 decode-k.ps decode-k.r decode.Post (λ κs a z e.
    (z ≡ decoder_calls.number a.0.now a.1.0.now a.1.1.0.now a.1.1.1.0.now)
    × ((e.1.1.0.now ≡ decoder_calls.out a.0.now a.1.0.now a.1.1.0.now a.1.1.1.0.now)
    × (e.1.1.1.0.now ≡ decoder_calls.mark a.0.now a.1.0.now a.1.1.0.now a.1.1.1.0.now)))
decoder_codes κs a z e p = p
