-- Decoders keep the laws of a kind of session.
use Prim.Native.Nat.{ℕ, ◌+◌, ◌≤◌, ◌<◌, ◌^◌}
use native.Mathlib.Omega.{arith}
use mathlib.Core.Path.{◌≡◌, refl, sym, ap, ◌∙◌}
use mathlib.Core.Bool.{true, false, not}
use mathlib.Core.List.{List, []}
use lib.ListN.{length}
use lib.Dec.{ltb}
use Rattle.runs.specs.Rates.{decode_room}
use Rattle.g722.specs.declared.Decoding.{Decoding}
use Rattle.g722.specs.Session.{Decoder, session_at, begun, in_bounds, decoder_moves, position_most, fresh_at}
use Rattle.runs.specs.Runs.{kept_at, filters_after_bytes, pairs_of_bytes}
use Rattle.g722.specs.Decoding.{decode_number, decode_answer}
use Rattle.g722.specs.Decoding.{decoder_after, decoded_samples}
use Rattle.g722.proofs.MovedOn.{decoder_stays}
use Rattle.g722.proofs.Cut.{decoder_cut, decoded_cut, decoded_length}
use Rattle.g722.proofs.Written.{decode_written}
use Rattle.g722.proofs.Sound.{begun_in, decoder_answer_in}
use Rattle.text.proofs.Tests.{either}
use Rattle.line.specs.Letters.{letter_d}
use Rattle.mark.proofs.Marks.{decoder_writes, decoder_round_trip}
use Rattle.life.specs.Life.{fresh}
use Rattle.life.proofs.Laws.{Laws}
use Rattle.history.specs.Decoding.{decoding}
use Rattle.history.specs.Reply.{reply_of}
use Rattle.history.proofs.Answered.{answered, answered_is, Coding, refused_start}
use Rattle.history.proofs.Answered as answer
use Rattle.history.proofs.Marks as mark

-- ---- begin

begin_in : (rate start : ℕ) → rate < 2 ^ 32 → decoding.InBounds (fresh decoding rate start)
unfolding begun
begin_in rate start r = (omega arith, begun_in Decoding rate start)

begin_same : (rate start : ℕ) → ¬ ((decoding.begin rate start).number ≡ 0) → fresh decoding rate start ≡ fresh decoding rate 0
unfolding begun
begin_same rate start e = ap (λ (z : ℕ). session_at rate z 0 (fresh_at z)) (refused_start start e)

-- ---- decode

decode_small : (s : Decoder) (n room : ℕ) → decode_number s n room ≤ 8
unfolding decode_number
decode_small s n room =
    let P : ℕ → Type 0 = λ k. k ≤ 8 in
    either P (not (in_bounds s)) (omega arith)
    (either P (ltb room (decode_room s.rate n)) (omega arith)
    (either P (ltb position_most (s.position + decoder_moves s.rate n)) (omega arith) (omega arith)))

code_is : (s : Decoder) (bs : List ℕ) (room : ℕ)
    → decoding.code s bs room ≡ answered (decode_number s (length bs) room) (decode_room s.rate (length bs)) (decoder_after s bs) s
unfolding decode_answer
code_is s bs room = answered_is (decode_number s (length bs) room) _ _ s (decode_small s (length bs) room)

abbrev calls : Coding decoding
calls = record {
  number = λ s bs room. decode_number s (length bs) room;
  count = λ s bs. decode_room s.rate (length bs);
  code_is = code_is;
  written = decode_written;
  count_is = decoded_length;
}

rate_kept : (s : Decoder) (bs : List ℕ) → (decoder_after s bs).rate ≡ s.rate
unfolding decoder_after
rate_kept s bs = refl

code_in : (s : Decoder) (bs : List ℕ) (room : ℕ) → decoding.InBounds s → decoding.Typed bs → (decoding.code s bs room).number ≡ 0
    → decoding.InBounds (decoding.code s bs room).session
code_in s bs room i t e =
    (rw (answer.code_after decoding calls s bs room e, rate_kept s bs) i.0, decoder_answer_in s bs room i.1)

-- the rate and the position that a history ends at
pub decoder_stands : (rate start : ℕ) (h : List ℕ) → let s = decoder_after (fresh decoding rate start) h in
    (s.rate ≡ rate) × (s.position ≡ decoder_moves rate (length h))
unfolding decoder_after begun
decoder_stands rate start h = (refl, omega arith)

pub number_at_lem : (rate start : ℕ) (h bs : List ℕ) (room : ℕ) → in_bounds (decoder_after (fresh decoding rate start) h) ≡ true
    → decode_number (decoder_after (fresh decoding rate start) h) (length bs) room ≡ decoding.number_at rate h bs room
unfolding decode_number
number_at_lem rate start h bs room e = let w = decoder_stands rate start h in rw (e, w.0, w.1)

number_not_2 : (s : Decoder) (n room : ℕ) → in_bounds s ≡ true → ¬ (decode_number s n room ≡ 2)
unfolding decode_number
number_not_2 s n room e z =
    answer.not_2 false (ltb room (decode_room s.rate n))
    (ltb position_most (s.position + decoder_moves s.rate n)) (rw e at z)

-- ---- the run

after_none : (s : Decoder) → decoder_after s [] ≡ s
unfolding decoder_after filters_after_bytes
after_none s =
    let still : s.position + decoder_moves s.rate 0 ≡ s.position = omega (arith, decoder_stays s.rate) in
    ap (λ (p : ℕ). session_at s.rate s.start p s.filters) still

output_none : (s : Decoder) → decoded_samples s [] ≡ []
unfolding decoded_samples pairs_of_bytes kept_at
output_none s = refl

pub decoding_laws : Laws decoding
decoding_laws = record {
  Whole = λ s bs. Unit {0};
  begin_in_bounds = begin_in;
  begin_same = begin_same;
  code_whole = λ s bs room e. tt;
  code_after = answer.code_after decoding calls;
  code_gives = answer.code_gives decoding calls;
  code_in_bounds = code_in;
  refused_same = answer.refused_same decoding calls;
  refused_gives = answer.refused_gives decoding calls;
  code_not_2 = λ s bs room i e. number_not_2 s (length bs) room i.1 (sym (answer.number_is decoding calls s bs room) ∙ e);
  code_answers = λ rate start h bs room i. answer.number_is decoding calls _ bs room ∙ number_at_lem rate start h bs room i.1;
  write_same = mark.write_same letter_d;
  write_not_2 = λ s room i. mark.write_not_2 letter_d s i.1 room;
  writes = λ s room i h. decoder_writes s i.0 i.1 room h;
  restore_same = mark.restore_same letter_d;
  restore_not_2 = λ s text i. mark.restore_not_2 letter_d s i.1 text;
  round_trip = λ s w out i j e. ap reply_of (decoder_round_trip w j.0 j.1 s out i.1 e);
  whole_none = λ s. tt;
  whole_more = λ s a b p q. tt;
  after_none = after_none;
  after_cut = λ s a b p. decoder_cut s a b;
  output_none = output_none;
  output_cut = λ s a b p. decoded_cut s a b;
}
