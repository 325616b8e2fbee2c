-- Each public call's contract determines it: two answers that it allows are equal, and so are the buffers that they leave.
use Rattle.answers.proofs.Determined.{Determined, one}
use Rattle.pcmu.proofs.encode.Kinds as encode-k
use Rattle.pcmu.proofs.encode.Reads as encode
use Rattle.pcmu.proofs.decode.Kinds as decode-k
use Rattle.pcmu.proofs.decode.Reads as decode
use Rattle.pcmu.proofs.encode_from_bytes.Kinds as encode-from-bytes-k
use Rattle.pcmu.proofs.encode_from_bytes.Reads as encode-from-bytes
use Rattle.pcmu.proofs.decode_to_bytes.Kinds as decode-to-bytes-k
use Rattle.pcmu.proofs.decode_to_bytes.Reads as decode-to-bytes

pub encode_determined : Determined 2 encode-k.ps encode-k.r encode.Post (λ κs e. e.1.0.now)
encode_determined κs a z z' e e' p q = (one p.0 q.0, one p.1 q.1)

pub decode_determined : Determined 2 decode-k.ps decode-k.r decode.Post (λ κs e. e.1.0.now)
decode_determined κs a z z' e e' p q = (one p.0 q.0, one p.1 q.1)

pub encode_from_bytes_determined : Determined 2 encode-from-bytes-k.ps encode-from-bytes-k.r encode-from-bytes.Post (λ κs e. e.1.0.now)
encode_from_bytes_determined κs a z z' e e' p q = (one p.0 q.0, one p.1 q.1)

pub decode_to_bytes_determined : Determined 2 decode-to-bytes-k.ps decode-to-bytes-k.r decode-to-bytes.Post (λ κs e. e.1.0.now)
decode_to_bytes_determined κs a z z' e e' p q = (one p.0 q.0, one p.1 q.1)
