-- THE THEOREMS: what is claimed of lines holds of the C calls of encoders and of decoders.
use Rattle.history.proofs.Encoding.{encoding_laws}
use Rattle.history.proofs.Decoding.{decoding_laws}
use Rattle.border.specs.Claims.{Lines}
use Rattle.border.specs.Encoding.{encoder_calls}
use Rattle.border.specs.Decoding.{decoder_calls}
use Rattle.border.proofs.Lines.{lines}
use Rattle.border.proofs.Encoding.{encoder_call_laws}
use Rattle.border.proofs.Decoding.{decoder_call_laws}

pub encoder_lines : Lines encoder_calls
encoder_lines = lines encoding_laws encoder_call_laws

pub decoder_lines : Lines decoder_calls
decoder_lines = lines decoding_laws decoder_call_laws
