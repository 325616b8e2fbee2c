-- Every public call, of sessions of any kind K: two results that its contract allows are equal, and so are the outputs that they leave.
-- What kind K is, the contracts see by its letter alone; and the letters of the two kinds.
use mathlib.Core.Path.{◌≡◌, refl}
use mir.Syntax.{Dict}
use denote.Param.Laws.{Laws, IsCopy, struct_laws, struct_copy}
use denote.RattleType.{RattleType}
use denote.Struct.Declared as struct
use Rattle.std.specs.declared.clone.Clone as clone
use Rattle.answers.proofs.Determined.{Determined, one}
use Rattle.g722.specs.contracts.Encoding as Encoding
use Rattle.g722.specs.contracts.Decoding as Decoding
use Rattle.line.specs.Letters.{letter_e, letter_d}
use Rattle.mark.specs.declared.Kind as kind
use Rattle.mark.specs.contracts.EncodingKind.TheImpl as encoding
use Rattle.mark.specs.contracts.DecodingKind.TheImpl as decoding
use Rattle.mark.proofs.write.Kinds as write-k
use Rattle.mark.proofs.write.Reads as write
use Rattle.mark.proofs.restore.Kinds as restore-k
use Rattle.mark.proofs.restore.Reads as restore

-- d, g and c: how K's code is found, and copied
module _ (K : RattleType) (laws : Laws K) (copy : IsCopy K) (letter : kind.Ghosts K.Denot) (d : Dict) (g : clone.Ghosts K.Denot) (c : Dict) where
  pub session_write : Determined 2 (write-k.ps K laws copy) (write-k.r K laws copy) (write.Post K laws copy letter d g c) (λ κs e. e.1.0.now)
  session_write κs a z z' e e' p q = (one p.0 q.0, one p.1 q.1)

  pub session_restore : Determined 2 (restore-k.ps K laws copy) (restore-k.r K laws copy) (restore.Post K laws copy letter d g c) (λ κs e. tt {0})
  session_restore κs a z z' e e' p q = (one p q, refl)

pub encoder_letter : (encoding.ghosts).letter ≡ letter_e
encoder_letter = refl

pub decoder_letter : (decoding.ghosts).letter ≡ letter_d
decoder_letter = refl

-- of an encoder, and of a decoder; how a kind is cloned is nothing to them
abbrev E : RattleType
E = struct.row Encoding.the_type

abbrev e-laws : Laws E
e-laws = struct_laws Encoding.the_type tt tt

abbrev e-copy : IsCopy E
e-copy = struct_copy Encoding.the_type tt

abbrev D : RattleType
D = struct.row Decoding.the_type

abbrev d-laws : Laws D
d-laws = struct_laws Decoding.the_type tt tt

abbrev d-copy : IsCopy D
d-copy = struct_copy Decoding.the_type tt

module _ (g : clone.Ghosts E.Denot) (c : Dict) where
  pub encoder_write : Determined 2 (write-k.ps E e-laws e-copy) (write-k.r E e-laws e-copy) (write.Post E e-laws e-copy encoding.ghosts encoding.dict g c) (λ κs e. e.1.0.now)
  encoder_write = session_write E e-laws e-copy encoding.ghosts encoding.dict g c

  pub encoder_restore : Determined 2 (restore-k.ps E e-laws e-copy) (restore-k.r E e-laws e-copy) (restore.Post E e-laws e-copy encoding.ghosts encoding.dict g c) (λ κs e. tt {0})
  encoder_restore = session_restore E e-laws e-copy encoding.ghosts encoding.dict g c

module _ (g : clone.Ghosts D.Denot) (c : Dict) where
  pub decoder_write : Determined 2 (write-k.ps D d-laws d-copy) (write-k.r D d-laws d-copy) (write.Post D d-laws d-copy decoding.ghosts decoding.dict g c) (λ κs e. e.1.0.now)
  decoder_write = session_write D d-laws d-copy decoding.ghosts decoding.dict g c

  pub decoder_restore : Determined 2 (restore-k.ps D d-laws d-copy) (restore-k.r D d-laws d-copy) (restore.Post D d-laws d-copy decoding.ghosts decoding.dict g c) (λ κs e. tt {0})
  decoder_restore = session_restore D d-laws d-copy decoding.ghosts decoding.dict g c
