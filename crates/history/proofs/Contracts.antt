-- What the contracts in the code allow is what the two kinds say, so lives are lives of the code's own sessions.
use Prim.Native.Nat.{ℕ}
use mathlib.Core.Path.{◌≡◌, ap}
use mathlib.Core.List.{List}
use contract.Lifetimes.{Lfts}
use mir.Syntax.{Dict}
use denote.Param.Laws.{Laws, IsCopy, struct_laws, struct_copy}
use denote.RattleType.{RattleType}
use denote.Struct.Declared as struct
use denote.Triple.Clauses.{AtExit}
use lib.ListN.{length}
use borrow.Fn.Kinds.{ParamKind, ResultKind, Out, Dens, res_t, ended_of}
use Rattle.g722.specs.contracts.Encoding as Encoding
use Rattle.g722.specs.contracts.Decoding as Decoding
use Rattle.std.specs.declared.clone.Clone.{Ghosts}
use Rattle.g722.proofs.Session.begin.Kinds as begin-k
use Rattle.g722.proofs.Session.begin.Reads as begin
use Rattle.g722.proofs.encoders.Encoder.encode.Kinds as e-encode-k
use Rattle.g722.proofs.encoders.Encoder.encode.Reads as e-encode
use Rattle.g722.proofs.decoders.Decoder.decode.Kinds as d-decode-k
use Rattle.g722.proofs.decoders.Decoder.decode.Reads as d-decode
use Rattle.mark.specs.contracts.EncodingKind.TheImpl as e-kind
use Rattle.mark.specs.contracts.DecodingKind.TheImpl as d-kind
use Rattle.mark.proofs.write.Kinds as write-k
use Rattle.mark.proofs.write.Reads as write
use Rattle.mark.proofs.restore.Kinds as restore-k
use Rattle.mark.proofs.restore.Reads as restore
use Rattle.history.specs.Reply.{reply_of}
use Rattle.history.specs.Encoding.{encoding}
use Rattle.history.specs.Decoding.{decoding}

-- whatever a contract allows, a claim holds of it; a are the arguments, z the result and e what is left in the outputs
abbrev pub Says : (n : ℕ) (ps : List (ParamKind n)) (r : ResultKind n) → Out n ps r → Out n ps r → Type 0
Says n ps r Post Claim =
    (κs : Lfts n) (a : Dens κs ps) (z : (res_t r κs).Denot) (e : AtExit (ended_of n ps r) κs) → Post κs a z e → Claim κs a z e

-- ---- encoders: the calls of both kinds, at this one; how K is cloned is nothing to them

abbrev E : RattleType
E = struct.row Encoding.the_type

abbrev e-laws : Laws E
e-laws = struct_laws Encoding.the_type tt tt

abbrev e-copy : IsCopy E
e-copy = struct_copy Encoding.the_type tt

pub encoder_begin : Says 1 (begin-k.ps E e-laws) (begin-k.r E e-laws) (begin.Post E e-laws) (λ κs a z e. reply_of z ≡ encoding.begin a.0 a.1.0)
encoder_begin κs a z e p = ap reply_of p

pub encoder_encode : Says 2 e-encode-k.ps e-encode-k.r e-encode.Post (λ κs a z e.
    (reply_of z ≡ encoding.code a.0 a.1.0.now (length a.1.1.0.now)) × (e.1.1.0.now ≡ encoding.code_out a.0 a.1.0.now a.1.1.0.now))
encoder_encode κs a z e p = (ap reply_of p.0, p.1)

pub encoder_write : (g : Ghosts E.Denot) (d : Dict) → Says 2 (write-k.ps E e-laws e-copy) (write-k.r E e-laws e-copy)
    (write.Post E e-laws e-copy e-kind.ghosts e-kind.dict g d) (λ κs a z e.
    (reply_of z ≡ encoding.write a.0 (length a.1.0.now)) × (e.1.0.now ≡ encoding.write_out a.0 a.1.0.now))
encoder_write g d κs a z e p = (ap reply_of p.0, p.1)

pub encoder_restore : (g : Ghosts E.Denot) (d : Dict) → Says 2 (restore-k.ps E e-laws e-copy) (restore-k.r E e-laws e-copy)
    (restore.Post E e-laws e-copy e-kind.ghosts e-kind.dict g d) (λ κs a z e.
    reply_of z ≡ encoding.restore a.0 a.1.0.now)
encoder_restore g d κs a z e p = ap reply_of p

-- ---- decoders, likewise

abbrev D : RattleType
D = struct.row Decoding.the_type

abbrev d-laws : Laws D
d-laws = struct_laws Decoding.the_type tt tt

abbrev d-copy : IsCopy D
d-copy = struct_copy Decoding.the_type tt

pub decoder_begin : Says 1 (begin-k.ps D d-laws) (begin-k.r D d-laws) (begin.Post D d-laws) (λ κs a z e. reply_of z ≡ decoding.begin a.0 a.1.0)
decoder_begin κs a z e p = ap reply_of p

pub decoder_decode : Says 2 d-decode-k.ps d-decode-k.r d-decode.Post (λ κs a z e.
    (reply_of z ≡ decoding.code a.0 a.1.0.now (length a.1.1.0.now)) × (e.1.1.0.now ≡ decoding.code_out a.0 a.1.0.now a.1.1.0.now))
decoder_decode κs a z e p = (ap reply_of p.0, p.1)

pub decoder_write : (g : Ghosts D.Denot) (d : Dict) → Says 2 (write-k.ps D d-laws d-copy) (write-k.r D d-laws d-copy)
    (write.Post D d-laws d-copy d-kind.ghosts d-kind.dict g d) (λ κs a z e.
    (reply_of z ≡ decoding.write a.0 (length a.1.0.now)) × (e.1.0.now ≡ decoding.write_out a.0 a.1.0.now))
decoder_write g d κs a z e p = (ap reply_of p.0, p.1)

pub decoder_restore : (g : Ghosts D.Denot) (d : Dict) → Says 2 (restore-k.ps D d-laws d-copy) (restore-k.r D d-laws d-copy)
    (restore.Post D d-laws d-copy d-kind.ghosts d-kind.dict g d) (λ κs a z e.
    reply_of z ≡ decoding.restore a.0 a.1.0.now)
decoder_restore g d κs a z e p = ap reply_of p
