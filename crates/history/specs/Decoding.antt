-- Decoders as a kind of session, by the definitions that the contracts of their public calls name.
use Rattle.std.specs.Prelude.{ℕ, ◌+◌, ◌≤◌, ◌≡◌, true, cond, List, ℤ, length, ltb}
use Rattle.answers.specs.Numbers.{done, no_room, position_past_end}
use Rattle.runs.specs.Rates.{decode_room}
use Rattle.g722.specs.Session.{Decoder, begun, in_bounds, decoder_moves, position_most}
use Rattle.g722.specs.Decoding.{decode_answer, decode_out, decoder_after, decoded_samples}
use Rattle.mark.specs.Answer.{rate_most}
use Rattle.mark.specs.Marks.{decoder_write_answer, decoder_write_out, decoder_restore_answer}
use Rattle.life.specs.Kind.{Kind}
use Rattle.history.specs.Reply.{reply_of}

abbrev pub decoding : Kind
decoding = record {
  Session = Decoder;
  Input = List ℕ;
  Item = ℕ;
  Out = ℤ;
  items = λ bs. bs;
  -- the run is defined on every number, so no byte needs a bound here
  Typed = λ bs. Unit {0};
  InBounds = λ s. (s.rate ≤ rate_most) × (in_bounds s ≡ true);
  number_at = λ rate h bs room.
      cond (ltb room (decode_room rate (length bs))) no_room
      (cond (ltb position_most (decoder_moves rate (length h) + decoder_moves rate (length bs))) position_past_end
      done);
  begin = λ rate start. reply_of (begun rate start);
  code = λ s bs room. reply_of (decode_answer s bs room);
  code_out = decode_out;
  write = λ s room. reply_of (decoder_write_answer s room);
  write_out = decoder_write_out;
  restore = λ s text. reply_of (decoder_restore_answer s text);
  after = decoder_after;
  output = decoded_samples;
}
