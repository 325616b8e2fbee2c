-- THE THEOREMS: what is claimed of histories holds of encoders and of decoders.
use Rattle.life.specs.Unbroken.{Histories}
use Rattle.life.proofs.Unbroken.{histories}
use Rattle.history.specs.Encoding.{encoding}
use Rattle.history.specs.Decoding.{decoding}
use Rattle.history.proofs.Encoding.{encoding_laws}
use Rattle.history.proofs.Decoding.{decoding_laws}

pub encoders : Histories encoding
encoders = histories encoding encoding_laws

pub decoders : Histories decoding
decoders = histories decoding decoding_laws
