-- Encoders as a kind of session, by the definitions that the contracts of their public calls name.
use Rattle.std.specs.Prelude.{ℕ, ◌+◌, ◌≤◌, ◌≡◌, true, cond, List, ℤ, length, ltb}
use Rattle.answers.specs.Numbers.{done, odd_count, no_room, position_past_end}
use Rattle.band.specs.Bounds.{all_words}
use Rattle.runs.specs.Rates.{encode_room, odd_at}
use Rattle.g722.specs.Session.{Encoder, begun, in_bounds, encoder_moves, position_most}
use Rattle.g722.specs.Encoding.{encode_answer, encode_out, encoder_after, encoded_bytes}
use Rattle.mark.specs.Answer.{rate_most}
use Rattle.mark.specs.Marks.{encoder_write_answer, encoder_write_out, encoder_restore_answer}
use Rattle.life.specs.Kind.{Kind}
use Rattle.history.specs.Reply.{reply_of}

abbrev pub encoding : Kind
encoding = record {
  Session = Encoder;
  Input = List ℤ;
  Item = ℤ;
  Out = ℕ;
  items = λ xs. xs;
  -- samples of 16 bits
  Typed = λ xs. all_words xs ≡ true;
  InBounds = λ s. (s.rate ≤ rate_most) × (in_bounds s ≡ true);
  number_at = λ rate h xs room.
      cond (odd_at rate (length xs)) odd_count
      (cond (ltb room (encode_room rate (length xs))) no_room
      (cond (ltb position_most (encoder_moves rate (length h) + encoder_moves rate (length xs))) position_past_end
      done));
  begin = λ rate start. reply_of (begun rate start);
  code = λ s xs room. reply_of (encode_answer s xs room);
  code_out = encode_out;
  write = λ s room. reply_of (encoder_write_answer s room);
  write_out = encoder_write_out;
  restore = λ s text. reply_of (encoder_restore_answer s text);
  after = encoder_after;
  output = encoded_bytes;
}
