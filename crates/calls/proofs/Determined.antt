-- Each public call's contract determines it: two answers that it allows are equal, and so are the buffers that they leave.
use mathlib.Core.List.{List}
use Prim.Native.Nat.{ℕ}
use Rattle.answers.proofs.Determined.{Determined, one}
use Rattle.calls.proofs.rozimaha_pcmu_encode.Kinds as rozimaha_pcmu_encode_k
use Rattle.calls.proofs.rozimaha_pcmu_encode.Reads as rozimaha_pcmu_encode
use Rattle.calls.proofs.rozimaha_pcmu_decode.Kinds as rozimaha_pcmu_decode_k
use Rattle.calls.proofs.rozimaha_pcmu_decode.Reads as rozimaha_pcmu_decode
use Rattle.calls.proofs.rozimaha_pcma_encode.Kinds as rozimaha_pcma_encode_k
use Rattle.calls.proofs.rozimaha_pcma_encode.Reads as rozimaha_pcma_encode
use Rattle.calls.proofs.rozimaha_pcma_decode.Kinds as rozimaha_pcma_decode_k
use Rattle.calls.proofs.rozimaha_pcma_decode.Reads as rozimaha_pcma_decode
use Rattle.calls.proofs.rozimaha_g722_encode.Kinds as rozimaha_g722_encode_k
use Rattle.calls.proofs.rozimaha_g722_encode.Reads as rozimaha_g722_encode
use Rattle.calls.proofs.rozimaha_g722_decode.Kinds as rozimaha_g722_decode_k
use Rattle.calls.proofs.rozimaha_g722_decode.Reads as rozimaha_g722_decode
use Rattle.calls.proofs.rozimaha_g722_begin_encoder.Kinds as rozimaha_g722_begin_encoder_k
use Rattle.calls.proofs.rozimaha_g722_begin_encoder.Reads as rozimaha_g722_begin_encoder
use Rattle.calls.proofs.rozimaha_g722_begin_decoder.Kinds as rozimaha_g722_begin_decoder_k
use Rattle.calls.proofs.rozimaha_g722_begin_decoder.Reads as rozimaha_g722_begin_decoder

pub rozimaha_pcmu_encode_determined
    : Determined 2 rozimaha_pcmu_encode_k.ps rozimaha_pcmu_encode_k.r rozimaha_pcmu_encode.Post (λ κs e. e.1.0.now)
rozimaha_pcmu_encode_determined κs a z z' e e' p q = (one p.0 q.0, one p.1 q.1)

pub rozimaha_pcmu_decode_determined
    : Determined 2 rozimaha_pcmu_decode_k.ps rozimaha_pcmu_decode_k.r rozimaha_pcmu_decode.Post (λ κs e. e.1.0.now)
rozimaha_pcmu_decode_determined κs a z z' e e' p q = (one p.0 q.0, one p.1 q.1)

pub rozimaha_pcma_encode_determined
    : Determined 2 rozimaha_pcma_encode_k.ps rozimaha_pcma_encode_k.r rozimaha_pcma_encode.Post (λ κs e. e.1.0.now)
rozimaha_pcma_encode_determined κs a z z' e e' p q = (one p.0 q.0, one p.1 q.1)

pub rozimaha_pcma_decode_determined
    : Determined 2 rozimaha_pcma_decode_k.ps rozimaha_pcma_decode_k.r rozimaha_pcma_decode.Post (λ κs e. e.1.0.now)
rozimaha_pcma_decode_determined κs a z z' e e' p q = (one p.0 q.0, one p.1 q.1)

-- both lent buffers are looked at: the output and the new mark
pub rozimaha_g722_encode_determined
    : Determined 4 rozimaha_g722_encode_k.ps rozimaha_g722_encode_k.r rozimaha_g722_encode.Post {B = List ℕ × List ℕ}
    (λ κs e. (e.1.1.0.now, e.1.1.1.0.now))
rozimaha_g722_encode_determined κs a z z' e e' p q = (one p.0 q.0, λ i. (one p.1.0 q.1.0 i, one p.1.1 q.1.1 i))

-- both lent buffers are looked at: the output and the new mark
pub rozimaha_g722_decode_determined
    : Determined 4 rozimaha_g722_decode_k.ps rozimaha_g722_decode_k.r rozimaha_g722_decode.Post {B = List ℕ × List ℕ}
    (λ κs e. (e.1.1.0.now, e.1.1.1.0.now))
rozimaha_g722_decode_determined κs a z z' e e' p q = (one p.0 q.0, λ i. (one p.1.0 q.1.0 i, one p.1.1 q.1.1 i))

pub rozimaha_g722_begin_encoder_determined
    : Determined 1 rozimaha_g722_begin_encoder_k.ps rozimaha_g722_begin_encoder_k.r rozimaha_g722_begin_encoder.Post
    (λ κs e. e.1.1.0.now)
rozimaha_g722_begin_encoder_determined κs a z z' e e' p q = (one p.0 q.0, one p.1 q.1)

pub rozimaha_g722_begin_decoder_determined
    : Determined 1 rozimaha_g722_begin_decoder_k.ps rozimaha_g722_begin_decoder_k.r rozimaha_g722_begin_decoder.Post
    (λ κs e. e.1.1.0.now)
rozimaha_g722_begin_decoder_determined κs a z z' e e' p q = (one p.0 q.0, one p.1 q.1)
