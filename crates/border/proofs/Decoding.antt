-- The C calls of decoders keep what they owe.
use Prim.Native.Nat.{ℕ, ◌+◌, ◌*◌, ◌/◌}
use mathlib.Core.Path.{◌≡◌, refl, ap, ◌∙◌}
use mathlib.Core.Bool.{Bool, false, cond}
use mathlib.Core.List.{List}
use lib.Dec.{ltb}
use lib.IntN.{pos}
use lib.ListN.{length, length-append}
use Rattle.answers.specs.Numbers.{done, no_room, position_past_end}
use Rattle.samples.specs.Bytes.{bytes}
use Rattle.runs.specs.Rates.{decode_room}
use Rattle.g722.specs.Session.{Decoder, begun, decoder_moves, position_most}
use Rattle.g722.specs.Decoding.{decoder_after, decoded_samples}
use Rattle.g722.proofs.MovedOn.{decoder_moves_cut}
use Rattle.g722.proofs.Cut.{decoded_length}
use Rattle.text.proofs.Tests.{either}
use Rattle.line.specs.Letters.{letter_d}
use Rattle.mark.specs.Marks.{decoder_line}
use Rattle.mark.proofs.Short.{line_short}
use Rattle.mark.proofs.Newline.{decoder_one_line}
use Rattle.life.specs.Kind.{Reply}
use Rattle.life.specs.Life.{fresh}
use Rattle.life.specs.Unbroken.{done_with}
use Rattle.history.specs.Decoding.{decoding}
use Rattle.history.proofs.Decoding.{decoder_stands, number_at_lem}
use Rattle.pieces.proofs.Lists.{bytes_cut, length-bytes}
use Rattle.calls.specs.G722.{call_number, restored, session_begin_number, session_begin_mark}
use Rattle.calls.specs.G722.{decode_call_number, decode_call_out, decode_call_mark}
use Rattle.calls.specs.Answers.{OneOf, begin_answers, decode_answers}
use Rattle.calls.proofs.Answers.{decoder_begin_answers, decode_answers_lem, never_2}
use Rattle.border.specs.Lines.{number_at}
use Rattle.border.specs.Decoding.{decoder_calls}
use Rattle.border.proofs.Laws.{CallLaws}
use Rattle.border.proofs.Marks.{mark_is}
use Rattle.border.proofs.Numbers.{tests_in_order, two_bytes_each, start_begins}

call_number_at : (rate : ℕ) (h input out next : List ℕ)
    → call_number 0 (decoding.number_at rate h input (length out / 2)) (length next) ≡ number_at decoder_calls rate h input out next
unfolding number_at
call_number_at rate h input out next =
    rw (length-append h input, decoder_moves_cut rate (length h) (length input), two_bytes_each (length out) (decode_room rate (length input)))
    (tests_in_order false false (ltb (length out) (2 * decode_room rate (length input)))
    (ltb position_most (decoder_moves rate (length h) + decoder_moves rate (length input))) (length next))

code_number : (line input out next : List ℕ) (rate start : ℕ) (h : List ℕ) → let s = decoder_after (fresh decoding rate start) h in
    decoding.restore (fresh decoding 16000 0) line ≡ done_with s → decoding.InBounds s
    → decode_call_number line input out next ≡ call_number 0 (decoding.number_at rate h input (length out / 2)) (length next)
unfolding decode_call_number restored
code_number line input out next rate start h e i =
    let n = ap (λ (r : Reply Decoder). r.number) e in
    let s = ap (λ (r : Reply Decoder). r.session) e in
    rw (n, s, number_at_lem rate start h input (length out / 2) i.1)

counted : (rate start : ℕ) (h input : List ℕ)
    → length (bytes (decoded_samples (decoder_after (fresh decoding rate start) h) input)) ≡ 2 * decode_room rate (length input)
counted rate start h input =
    let s = decoder_after (fresh decoding rate start) h in
    length-bytes (decoded_samples s input)
    ∙ ap (λ (n : ℕ). 2 * n) (decoded_length s input ∙ ap (λ (r : ℕ). decode_room r (length input)) (decoder_stands rate start h).0)

listed : (short past : Bool) → OneOf decoder_calls.coding_answers (cond short no_room (cond past position_past_end done))
listed short past =
    let P : ℕ → Type 0 = OneOf decoder_calls.coding_answers in
    either P short refl (either P past refl refl)

pub decoder_call_laws : CallLaws decoder_calls
unfolding session_begin_number session_begin_mark restored decode_call_out decode_call_mark begun
decoder_call_laws = record {
  typed = λ input b. tt;
  bytes_none = refl;
  bytes_cut = bytes_cut;
  blank = pos 0;
  position_cut = decoder_moves_cut;
  listed = λ rate n. listed;
  line_of = decoder_line;
  mark_is = mark_is letter_d;
  one_line = decoder_one_line;
  line_short = λ s i. line_short letter_d s.rate s.start s.position s.filters i.0 i.1;
  starts = λ rate start h. start_begins start h;
  begin_number_lem = λ rate start mark. refl;
  begin_mark_lem = λ rate start mark. refl;
  half = λ input. false;
  room = λ n. n / 2;
  number_at_lem = call_number_at;
  code_number = code_number;
  code_output = λ line input out next. refl;
  code_mark = λ line input out next. refl;
  counted = counted;
  begin_not_2 = λ rate start mark. never_2 begin_answers _ refl (decoder_begin_answers rate start mark);
  not_2 = λ line input out next. never_2 decode_answers _ refl (decode_answers_lem line input out next);
}
