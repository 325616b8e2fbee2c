-- The C calls of encoders keep what they owe.
use Prim.Native.Nat.{ℕ, ◌+◌, ◌/◌, ◌%◌}
use mathlib.Core.Path.{◌≡◌, refl, ap, ◌∙◌}
use mathlib.Core.Bool.{Bool, not, cond}
use mathlib.Core.List.{List}
use lib.Dec.{eqb, ltb}
use lib.IntN.{ℤ}
use lib.ListN.{length, length-append}
use Rattle.answers.specs.Numbers.{done, odd_count, no_room, position_past_end}
use Rattle.samples.specs.Bytes.{samples}
use Rattle.samples.proofs.Bytes.{length-samples}
use Rattle.runs.specs.Rates.{encode_room, odd_at}
use Rattle.g722.specs.Session.{Encoder, begun, encoder_moves, position_most}
use Rattle.g722.specs.Encoding.{encoder_after, encoded_bytes, encode_from_bytes_number}
use Rattle.g722.proofs.Cut.{encoded_length}
use Rattle.text.proofs.Tests.{either}
use Rattle.line.specs.Letters.{letter_e}
use Rattle.mark.specs.Marks.{encoder_line}
use Rattle.mark.proofs.Short.{line_short}
use Rattle.mark.proofs.Newline.{encoder_one_line}
use Rattle.life.specs.Kind.{Reply}
use Rattle.life.specs.Life.{fresh}
use Rattle.life.specs.Unbroken.{done_with}
use Rattle.history.specs.Encoding.{encoding}
use Rattle.history.proofs.Encoding.{encoder_stands, number_at_lem}
use Rattle.pieces.proofs.Lists.{samples_words}
use Rattle.calls.specs.G722.{call_number, restored, session_begin_number, session_begin_mark}
use Rattle.calls.specs.G722.{encode_call_number, encode_call_out, encode_call_mark}
use Rattle.calls.specs.Answers.{OneOf, begin_answers, encode_answers}
use Rattle.calls.proofs.Answers.{encoder_begin_answers, encode_answers_lem, never_2}
use Rattle.border.specs.Lines.{number_at}
use Rattle.border.specs.Encoding.{encoder_calls}
use Rattle.border.proofs.Laws.{CallLaws}
use Rattle.border.proofs.Marks.{mark_is}
use Rattle.border.proofs.Numbers.{tests_in_order, start_begins}

abbrev half : List ℕ → Bool
half input = not (eqb (length input % 2) 0)

call_number_at : (rate : ℕ) (h : List ℤ) (input out next : List ℕ)
    → call_number 0 (cond (half input) odd_count (encoding.number_at rate h (samples input) (length out))) (length next)
    ≡ number_at encoder_calls rate h input out next
unfolding number_at encoder_moves
call_number_at rate h input out next =
    rw (length-append h (samples input), length-samples input)
    (tests_in_order (half input) (odd_at rate (length input / 2)) (ltb (length out) (encode_room rate (length input / 2)))
    (ltb position_most (length h + length input / 2)) (length next))

code_number : (line input out next : List ℕ) (rate start : ℕ) (h : List ℤ) → let s = encoder_after (fresh encoding rate start) h in
    encoding.restore (fresh encoding 16000 0) line ≡ done_with s → encoding.InBounds s
    → encode_call_number line input out next ≡ call_number 0 (cond (half input) odd_count (encoding.number_at rate h (samples input) (length out))) (length next)
unfolding encode_call_number encode_from_bytes_number restored
code_number line input out next rate start h e i =
    let n = ap (λ (r : Reply Encoder). r.number) e in
    let s = ap (λ (r : Reply Encoder). r.session) e in
    rw (n, s, i.1, ← length-samples input, number_at_lem rate start h (samples input) (length out) i.1)

counted : (rate start : ℕ) (h : List ℤ) (input : List ℕ)
    → length (encoded_bytes (encoder_after (fresh encoding rate start) h) (samples input)) ≡ encode_room rate (length input / 2)
counted rate start h input =
    encoded_length (encoder_after (fresh encoding rate start) h) (samples input)
    ∙ (λ i. encode_room ((encoder_stands rate start h).0 i) (length-samples input i))

listed : (rate n : ℕ) (short past : Bool)
    → OneOf encoder_calls.coding_answers (cond (encoder_calls.odd rate n) odd_count (cond short no_room (cond past position_past_end done)))
listed rate n short past =
    let P : ℕ → Type 0 = OneOf encoder_calls.coding_answers in
    either P (encoder_calls.odd rate n) refl (either P short refl (either P past refl refl))

pub encoder_call_laws : CallLaws encoder_calls
unfolding encoder_moves session_begin_number session_begin_mark restored encode_call_out encode_call_mark begun
encoder_call_laws = record {
  typed = samples_words;
  bytes_none = refl;
  bytes_cut = λ a b. refl;
  blank = 0;
  position_cut = λ rate m n. refl;
  listed = listed;
  line_of = encoder_line;
  mark_is = mark_is letter_e;
  one_line = encoder_one_line;
  line_short = λ s i. line_short letter_e s.rate s.start s.position s.filters i.0 i.1;
  starts = λ rate start h. start_begins start h;
  begin_number_lem = λ rate start mark. refl;
  begin_mark_lem = λ rate start mark. refl;
  half = half;
  room = λ n. n;
  number_at_lem = call_number_at;
  code_number = code_number;
  code_output = λ line input out next. refl;
  code_mark = λ line input out next. refl;
  counted = counted;
  begin_not_2 = λ rate start mark. never_2 begin_answers _ refl (encoder_begin_answers rate start mark);
  not_2 = λ line input out next. never_2 encode_answers _ refl (encode_answers_lem line input out next);
}
