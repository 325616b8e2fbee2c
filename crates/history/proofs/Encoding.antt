-- Encoders keep the laws of a kind of session.
use Prim.Native.Nat.{ℕ, ◌+◌, ◌%◌, ◌≤◌, ◌<◌, ◌^◌}
use native.Mathlib.Omega.{arith}
use mathlib.Core.Path.{◌≡◌, refl, sym, ap, ap₂, ◌∙◌}
use mathlib.Core.Bool.{Bool, true, false, not, ◌&&◌}
use mathlib.Core.List.{List, [], ◌++◌}
use lib.IntN.{ℤ}
use lib.ListN.{length, length-append}
use lib.Dec.{eqb, ltb}
use borrow.Author.Tests.{eq-eqb, eqb-true, not-false}
use Rattle.runs.specs.Rates.{resamples, encode_room, odd_at}
use Rattle.g722.specs.declared.Encoding.{Encoding}
use Rattle.g722.specs.Session.{Encoder, session_at, begun, in_bounds, encoder_moves, position_most, fresh_at}
use Rattle.runs.specs.Runs.{doubled, paired, pairs_at, filters_after_pairs, bytes_of_pairs}
use Rattle.g722.specs.Encoding.{encode_number, encode_answer}
use Rattle.g722.specs.Encoding.{encoder_after, encoded_bytes}
use Rattle.runs.proofs.RateLaws.{nothing, not_odd}
use Rattle.g722.proofs.MovedOn.{encoder_stays}
use Rattle.g722.proofs.Numbers.{encode_taken}
use Rattle.g722.proofs.Cut.{encoder_cut, encoded_cut, encoded_length}
use Rattle.g722.proofs.Written.{encode_written}
use Rattle.g722.proofs.Sound.{begun_in, encoder_answer_in}
use Rattle.text.proofs.Tests.{either}
use Rattle.line.specs.Letters.{letter_e}
use Rattle.mark.proofs.Marks.{encoder_writes, encoder_round_trip}
use Rattle.life.specs.Life.{fresh}
use Rattle.life.proofs.Laws.{Laws}
use Rattle.history.specs.Encoding.{encoding}
use Rattle.history.specs.Reply.{reply_of}
use Rattle.history.proofs.Answered.{answered, answered_is, Coding, refused_start}
use Rattle.history.proofs.Answered as answer
use Rattle.history.proofs.Marks as mark

-- ---- begin

begin_in : (rate start : ℕ) → rate < 2 ^ 32 → encoding.InBounds (fresh encoding rate start)
unfolding begun
begin_in rate start r = (omega arith, begun_in Encoding rate start)

begin_same : (rate start : ℕ) → ¬ ((encoding.begin rate start).number ≡ 0) → fresh encoding rate start ≡ fresh encoding rate 0
unfolding begun
begin_same rate start e = ap (λ (z : ℕ). session_at rate z 0 (fresh_at z)) (refused_start start e)

-- ---- encode

encode_small : (s : Encoder) (n room : ℕ) → encode_number s n room ≤ 8
unfolding encode_number
encode_small s n room =
    let P : ℕ → Type 0 = λ k. k ≤ 8 in
    either P (not (in_bounds s)) (omega arith)
    (either P (odd_at s.rate n) (omega arith)
    (either P (ltb room (encode_room s.rate n)) (omega arith)
    (either P (ltb position_most (s.position + encoder_moves s.rate n)) (omega arith) (omega arith))))

code_is : (s : Encoder) (xs : List ℤ) (room : ℕ)
    → encoding.code s xs room ≡ answered (encode_number s (length xs) room) (encode_room s.rate (length xs)) (encoder_after s xs) s
unfolding encode_answer
code_is s xs room = answered_is (encode_number s (length xs) room) _ _ s (encode_small s (length xs) room)

abbrev calls : Coding encoding
calls = record {
  number = λ s xs room. encode_number s (length xs) room;
  count = λ s xs. encode_room s.rate (length xs);
  code_is = code_is;
  written = encode_written;
  count_is = encoded_length;
}

rate_kept : (s : Encoder) (xs : List ℤ) → (encoder_after s xs).rate ≡ s.rate
unfolding encoder_after
rate_kept s xs = refl

code_in : (s : Encoder) (xs : List ℤ) (room : ℕ) → encoding.InBounds s → encoding.Typed xs → (encoding.code s xs room).number ≡ 0
    → encoding.InBounds (encoding.code s xs room).session
code_in s xs room i t e =
    (rw (answer.code_after encoding calls s xs room e, rate_kept s xs) i.0, encoder_answer_in s xs room t i.1)

-- the rate and the position that a history ends at
pub encoder_stands : (rate start : ℕ) (h : List ℤ) → let s = encoder_after (fresh encoding rate start) h in
    (s.rate ≡ rate) × (s.position ≡ encoder_moves rate (length h))
unfolding encoder_after begun
encoder_stands rate start h = (refl, omega arith)

pub number_at_lem : (rate start : ℕ) (h xs : List ℤ) (room : ℕ) → in_bounds (encoder_after (fresh encoding rate start) h) ≡ true
    → encode_number (encoder_after (fresh encoding rate start) h) (length xs) room ≡ encoding.number_at rate h xs room
unfolding encode_number
number_at_lem rate start h xs room e = let w = encoder_stands rate start h in rw (e, w.0, w.1)

number_not_2 : (s : Encoder) (n room : ℕ) → in_bounds s ≡ true → ¬ (encode_number s n room ≡ 2)
unfolding encode_number
number_not_2 s n room e z =
    answer.not_2 (odd_at s.rate n) (ltb room (encode_room s.rate n))
    (ltb position_most (s.position + encoder_moves s.rate n)) (rw e at z)

-- ---- the run

-- an even count, or any at rate 8000
abbrev Whole : Encoder → List ℤ → Type 0
Whole s xs = odd_at s.rate (length xs) ≡ false

even_more : (t : Bool) (m n : ℕ) → (not t && not (eqb (m % 2) 0)) ≡ false → (not t && not (eqb (n % 2) 0)) ≡ false
    → (not t && not (eqb ((m + n) % 2) 0)) ≡ false
even_more true m n p q = refl
even_more false m n p q =
    let left : m % 2 ≡ 0 = eqb-true _ _ (not-false _ p) in
    let right : n % 2 ≡ 0 = eqb-true _ _ (not-false _ q) in
    let even : (m + n) % 2 ≡ 0 = omega arith in
    rw (eq-eqb ((m + n) % 2) 0 even)

whole_more : (s : Encoder) (a b : List ℤ) → Whole s a → Whole (encoder_after s a) b → Whole s (a ++ b)
unfolding odd_at encoder_after
whole_more s a b p q = rw (length-append a b) (even_more (resamples s.rate) (length a) (length b) p q)

no_pairs : (rate : ℕ) → pairs_at rate [] ≡ []
unfolding pairs_at doubled paired
no_pairs rate = nothing (resamples rate) []

after_none : (s : Encoder) → encoder_after s [] ≡ s
unfolding encoder_after filters_after_pairs
after_none s =
    let still : s.position + encoder_moves s.rate 0 ≡ s.position = omega (arith, encoder_stays s.rate) in
    ap₂ (session_at s.rate s.start) still (ap (filters_after_pairs s.filters) (no_pairs s.rate))

output_none : (s : Encoder) → encoded_bytes s [] ≡ []
unfolding encoded_bytes bytes_of_pairs
output_none s = ap (bytes_of_pairs s.filters) (no_pairs s.rate)

pub encoding_laws : Laws encoding
encoding_laws = record {
  Whole = Whole;
  begin_in_bounds = begin_in;
  begin_same = begin_same;
  code_whole = λ s xs room e. (encode_taken s (length xs) room (answer.zero_is encoding calls s xs room e)).even;
  code_after = answer.code_after encoding calls;
  code_gives = answer.code_gives encoding calls;
  code_in_bounds = code_in;
  refused_same = answer.refused_same encoding calls;
  refused_gives = answer.refused_gives encoding calls;
  code_not_2 = λ s xs room i e. number_not_2 s (length xs) room i.1 (sym (answer.number_is encoding calls s xs room) ∙ e);
  code_answers = λ rate start h xs room i. answer.number_is encoding calls _ xs room ∙ number_at_lem rate start h xs room i.1;
  write_same = mark.write_same letter_e;
  write_not_2 = λ s room i. mark.write_not_2 letter_e s i.1 room;
  writes = λ s room i h. encoder_writes s i.0 i.1 room h;
  restore_same = mark.restore_same letter_e;
  restore_not_2 = λ s text i. mark.restore_not_2 letter_e s i.1 text;
  round_trip = λ s w out i j e. ap reply_of (encoder_round_trip w j.0 j.1 s out i.1 e);
  whole_none = λ s. not_odd s.rate;
  whole_more = whole_more;
  after_none = after_none;
  after_cut = encoder_cut;
  output_none = output_none;
  output_cut = encoded_cut;
}
