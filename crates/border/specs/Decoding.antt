-- The C calls of decoders, by the definitions that their contracts cite.
use Rattle.std.specs.Prelude.{◌*◌, false, [], ◌∷◌}
use Rattle.answers.specs.Numbers.{done, no_room, position_past_end}
use Rattle.samples.specs.Bytes.{bytes}
use Rattle.runs.specs.Rates.{decode_room}
use Rattle.g722.specs.Session.{decoder_moves}
use Rattle.history.specs.Decoding.{decoding}
use Rattle.calls.specs.G722.{decoder_begin_number, decoder_begin_mark, decode_call_number, decode_call_out, decode_call_mark}
use Rattle.border.specs.Calls.{CCalls}

abbrev pub decoder_calls : CCalls decoding
decoder_calls = record {
  input = λ bs. bs;
  as_bytes = bytes;
  odd = λ rate n. false;
  count = λ rate n. 2 * decode_room rate n;
  position = decoder_moves;
  coding_answers = done ∷ no_room ∷ position_past_end ∷ [];
  begin_number = decoder_begin_number;
  begin_mark = decoder_begin_mark;
  number = decode_call_number;
  out = decode_call_out;
  mark = decode_call_mark;
}
