-- Every public call: two results that its contract allows are equal, and so are the outputs that they leave.
use denote.Param.Laws.{Laws, struct_laws}
use denote.RattleType.{RattleType}
use denote.Struct.Declared as struct
use mathlib.Core.Path.{refl}
use Rattle.answers.proofs.Determined.{Determined, one}
use Rattle.g722.specs.contracts.Encoding as Encoding
use Rattle.g722.specs.contracts.Decoding as Decoding
use Rattle.g722.proofs.Session.begin.Kinds as begin-k
use Rattle.g722.proofs.Session.begin.Reads as begin
use Rattle.g722.proofs.Session.in_bounds.Kinds as bounds-k
use Rattle.g722.proofs.Session.in_bounds.Reads as bounds
use Rattle.g722.proofs.encoders.Encoder.encode.Kinds as e-encode-k
use Rattle.g722.proofs.encoders.Encoder.encode.Reads as e-encode
use Rattle.g722.proofs.encoders.Encoder.encode_from_bytes.Kinds as e-bytes-k
use Rattle.g722.proofs.encoders.Encoder.encode_from_bytes.Reads as e-bytes
use Rattle.g722.proofs.decoders.Decoder.decode.Kinds as d-decode-k
use Rattle.g722.proofs.decoders.Decoder.decode.Reads as d-decode
use Rattle.g722.proofs.decoders.Decoder.decode_to_bytes.Kinds as d-bytes-k
use Rattle.g722.proofs.decoders.Decoder.decode_to_bytes.Reads as d-bytes

-- of a session of any kind: K is Encoding or Decoding
module _ (K : RattleType) (laws : Laws K) where
  pub session_begin : Determined 1 (begin-k.ps K laws) (begin-k.r K laws) (begin.Post K laws) (λ κs e. tt {0})
  session_begin κs a z z' e e' p q = (one p q, refl)

  pub session_in_bounds_lem : Determined 1 (bounds-k.ps K laws) (bounds-k.r K laws) (bounds.Post K laws) (λ κs e. tt {0})
  session_in_bounds_lem κs a z z' e e' p q = (one p q, refl)

-- of an encoder, and of a decoder
abbrev E : RattleType
E = struct.row Encoding.the_type

abbrev e-laws : Laws E
e-laws = struct_laws Encoding.the_type tt tt

abbrev D : RattleType
D = struct.row Decoding.the_type

abbrev d-laws : Laws D
d-laws = struct_laws Decoding.the_type tt tt

pub encoder_begin : Determined 1 (begin-k.ps E e-laws) (begin-k.r E e-laws) (begin.Post E e-laws) (λ κs e. tt {0})
encoder_begin = session_begin E e-laws

pub decoder_begin : Determined 1 (begin-k.ps D d-laws) (begin-k.r D d-laws) (begin.Post D d-laws) (λ κs e. tt {0})
decoder_begin = session_begin D d-laws

pub encoder_in_bounds_lem : Determined 1 (bounds-k.ps E e-laws) (bounds-k.r E e-laws) (bounds.Post E e-laws) (λ κs e. tt {0})
encoder_in_bounds_lem = session_in_bounds_lem E e-laws

pub decoder_in_bounds_lem : Determined 1 (bounds-k.ps D d-laws) (bounds-k.r D d-laws) (bounds.Post D d-laws) (λ κs e. tt {0})
decoder_in_bounds_lem = session_in_bounds_lem D d-laws

pub encoder_encode_from_bytes : Determined 2 e-bytes-k.ps e-bytes-k.r e-bytes.Post (λ κs e. e.1.1.0.now)
encoder_encode_from_bytes κs a z z' e e' p q = (one p.0 q.0, one p.1 q.1)

pub encoder_encode : Determined 2 e-encode-k.ps e-encode-k.r e-encode.Post (λ κs e. e.1.1.0.now)
encoder_encode κs a z z' e e' p q = (one p.0 q.0, one p.1 q.1)

pub decoder_decode : Determined 2 d-decode-k.ps d-decode-k.r d-decode.Post (λ κs e. e.1.1.0.now)
decoder_decode κs a z z' e e' p q = (one p.0 q.0, one p.1 q.1)

pub decoder_decode_to_bytes : Determined 2 d-bytes-k.ps d-bytes-k.r d-bytes.Post (λ κs e. e.1.1.0.now)
decoder_decode_to_bytes κs a z z' e e' p q = (one p.0 q.0, one p.1 q.1)
