-- Each function's contract determines it at every law: two answers that it allows are equal, and so are the buffers that they leave.
use denote.RattleType.{RattleType}
use denote.Param.Laws.{Laws}
use mir.Syntax.{Dict}
use Rattle.answers.proofs.Determined.{Determined, one}
use Rattle.lookup.specs.declared.Law.{Ghosts}
use Rattle.lookup.proofs.encode.Kinds as encode-k
use Rattle.lookup.proofs.encode.Reads as encode
use Rattle.lookup.proofs.decode.Kinds as decode-k
use Rattle.lookup.proofs.decode.Reads as decode
use Rattle.lookup.proofs.encode_from_bytes.Kinds as encode-from-bytes-k
use Rattle.lookup.proofs.encode_from_bytes.Reads as encode-from-bytes
use Rattle.lookup.proofs.decode_to_bytes.Kinds as decode-to-bytes-k
use Rattle.lookup.proofs.decode_to_bytes.Reads as decode-to-bytes

module _ (L : RattleType) (laws : Laws L) (law : Ghosts L.Denot) (dict : Dict) where
  pub encode_determined : Determined 3 (encode-k.ps L laws) (encode-k.r L laws) (encode.Post L laws law dict) (λ κs e. e.1.0.now)
  encode_determined κs a z z' e e' p q = (one p.0 q.0, one p.1 q.1)

  pub decode_determined : Determined 3 (decode-k.ps L laws) (decode-k.r L laws) (decode.Post L laws law dict) (λ κs e. e.1.0.now)
  decode_determined κs a z z' e e' p q = (one p.0 q.0, one p.1 q.1)

  pub encode_from_bytes_determined : Determined 3 (encode-from-bytes-k.ps L laws) (encode-from-bytes-k.r L laws) (encode-from-bytes.Post L laws law dict) (λ κs e. e.1.0.now)
  encode_from_bytes_determined κs a z z' e e' p q = (one p.0 q.0, one p.1 q.1)

  pub decode_to_bytes_determined : Determined 3 (decode-to-bytes-k.ps L laws) (decode-to-bytes-k.r L laws) (decode-to-bytes.Post L laws law dict) (λ κs e. e.1.0.now)
  decode_to_bytes_determined κs a z z' e e' p q = (one p.0 q.0, one p.1 q.1)
