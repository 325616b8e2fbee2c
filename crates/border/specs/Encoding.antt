-- The C calls of encoders, by the definitions that their contracts cite.
use Rattle.std.specs.Prelude.{◌/◌, ◌%◌, not, ◌||◌, [], ◌∷◌, eqb}
use Rattle.answers.specs.Numbers.{done, odd_count, no_room, position_past_end}
use Rattle.samples.specs.Bytes.{samples}
use Rattle.runs.specs.Rates.{encode_room, odd_at}
use Rattle.g722.specs.Session.{encoder_moves}
use Rattle.history.specs.Encoding.{encoding}
use Rattle.calls.specs.G722.{encoder_begin_number, encoder_begin_mark, encode_call_number, encode_call_out, encode_call_mark}
use Rattle.border.specs.Calls.{CCalls}

abbrev pub encoder_calls : CCalls encoding
encoder_calls = record {
  input = samples;
  as_bytes = λ bs. bs;
  -- half a sample, or an odd count of samples where two go into a byte
  odd = λ rate n. not (eqb (n % 2) 0) || odd_at rate (n / 2);
  count = λ rate n. encode_room rate (n / 2);
  position = encoder_moves;
  coding_answers = done ∷ odd_count ∷ no_room ∷ position_past_end ∷ [];
  begin_number = encoder_begin_number;
  begin_mark = encoder_begin_mark;
  number = encode_call_number;
  out = encode_call_out;
  mark = encode_call_mark;
}
