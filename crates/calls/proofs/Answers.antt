-- Each C call answers a number of its list and no other, whatever it is lent: by the definitions that the contracts cite. So none answers 2.
use Prim.Native.Nat.{ℕ, ◌+◌, ◌*◌, ◌/◌, ◌%◌}
use mathlib.Core.Path.{◌≡◌, refl, sym, ap, ◌∙◌}
use mathlib.Core.Bool.{true, false, cond, not}
use mathlib.Core.List.{List}
use lib.Dec.{eqb, ltb}
use lib.ListN.{length}
use borrow.Author.Tests.{eqb-true}
use Rattle.answers.specs.Numbers.{done, bad_start, out_of_bounds, odd_count, no_room}
use Rattle.answers.specs.Outcomes.{number_of, outcome}
use Rattle.samples.specs.Lent.{from_bytes_number, to_bytes_number}
use Rattle.runs.specs.Rates.{encode_room, decode_room, odd_at}
use Rattle.g722.specs.declared.Encoding.{Encoding}
use Rattle.g722.specs.declared.Decoding.{Decoding}
use Rattle.g722.specs.Session.{Encoder, Decoder, in_bounds, begun, position_most, encoder_moves, decoder_moves, begin_number}
use Rattle.g722.specs.Encoding.{encode_number, encode_from_bytes_number}
use Rattle.g722.specs.Decoding.{decode_number}
use Rattle.g722.proofs.Sound.{begun_in}
use Rattle.line.specs.Letters.{letter_e, letter_d}
use Rattle.text.proofs.Tests.{Test, yes!, no!, test, false_is_true, either}
use Rattle.mark.proofs.Marks.{encoder_restored, decoder_restored}
use Rattle.calls.specs.G722.{call_number, restored, begin_call_number, session_begin_number}
use Rattle.calls.specs.G722.{encoder_of, encode_call_number, encoder_begin_number, decoder_of, decode_call_number, decoder_begin_number}
use Rattle.calls.specs.Answers.{is_one_of, OneOf, from_bytes_answers, to_bytes_answers, begin_answers, encode_answers, decode_answers}

-- ---- the laws

pub from_bytes_answers_lem : (input out : List ℕ) → OneOf from_bytes_answers (from_bytes_number input out)
from_bytes_answers_lem input out =
    either (OneOf from_bytes_answers) (eqb (length input % 2) 0)
    (either (OneOf from_bytes_answers) (ltb (length out) (length input / 2)) refl refl) refl

pub to_bytes_answers_lem : (input out : List ℕ) → OneOf to_bytes_answers (to_bytes_number input out)
to_bytes_answers_lem input out = either (OneOf to_bytes_answers) (ltb (length out) (2 * length input)) refl refl

-- ---- beginning

begin_answers_lem : (K : Type 0) (letter rate start : ℕ) (mark : List ℕ) → OneOf begin_answers (session_begin_number K letter rate start mark)
unfolding session_begin_number begin_call_number begun begin_number
begin_answers_lem K letter rate start mark =
    let n = number_of (outcome (cond (ltb 1 start) bad_start done) 0) in
    either (OneOf begin_answers) (not (eqb n done))
    (either (λ k. OneOf begin_answers (number_of (outcome k 0))) (ltb 1 start) refl refl)
    (either (OneOf begin_answers) (ltb (length mark) _) refl refl)

pub encoder_begin_answers : (rate start : ℕ) (mark : List ℕ) → OneOf begin_answers (encoder_begin_number rate start mark)
encoder_begin_answers = begin_answers_lem Encoding letter_e

pub decoder_begin_answers : (rate start : ℕ) (mark : List ℕ) → OneOf begin_answers (decoder_begin_number rate start mark)
decoder_begin_answers = begin_answers_lem Decoding letter_d

-- ---- coding

-- what holds of restore's number, of the coder's and of 4
call_holds : (P : ℕ → Type 0) (restored coded room : ℕ) → P restored → P no_room → P coded → P (call_number restored coded room)
unfolding call_number
call_holds P restored coded room r four c = either P (not (eqb restored done)) r (of_code (test (eqb coded odd_count)))
  where
    of_code : Test (eqb coded odd_count) → P (cond (eqb coded odd_count) odd_count (cond (ltb room 512) no_room coded))
    of_code (yes! e) = rw e (rw (eqb-true coded odd_count e) at c)
    of_code (no! e) = rw e (either P (ltb room 512) four c)

encode_number_lem : (s : Encoder) (n room : ℕ) → in_bounds s ≡ true → OneOf encode_answers (encode_from_bytes_number s n room)
unfolding encode_from_bytes_number encode_number
encode_number_lem s n room e =
    let P : ℕ → Type 0 = OneOf encode_answers in
    rw e
    (either P (not (eqb (n % 2) 0)) refl
    (either P (odd_at s.rate (n / 2)) refl
    (either P (ltb room (encode_room s.rate (n / 2))) refl
    (either P (ltb position_most (s.position + encoder_moves s.rate (n / 2))) refl refl))))

pub encode_answers_lem : (mark input out next : List ℕ) → OneOf encode_answers (encode_call_number mark input out next)
unfolding encode_call_number restored
encode_answers_lem mark input out next =
    let i = begun_in Encoding 16000 0 in
    let r = encoder_restored (begun 16000 0).session mark i
    (λ a. OneOf encode_answers (number_of a.outcome) × (in_bounds a.session ≡ true)) (λ t j. (refl, j)) (refl, i) (refl, i) (refl, i) in
    let s = (encoder_of mark).session in
    call_holds (OneOf encode_answers) (number_of (encoder_of mark).outcome) (encode_from_bytes_number s (length input) (length out)) _
    r.0 refl (encode_number_lem s (length input) (length out) r.1)

decode_number_lem : (s : Decoder) (n room : ℕ) → in_bounds s ≡ true → OneOf decode_answers (decode_number s n room)
unfolding decode_number
decode_number_lem s n room e =
    rw e
    (either (OneOf decode_answers) (ltb room (decode_room s.rate n)) refl
    (either (OneOf decode_answers) (ltb position_most (s.position + decoder_moves s.rate n)) refl refl))

pub decode_answers_lem : (mark input out next : List ℕ) → OneOf decode_answers (decode_call_number mark input out next)
unfolding decode_call_number restored
decode_answers_lem mark input out next =
    let i = begun_in Decoding 16000 0 in
    let r = decoder_restored (begun 16000 0).session mark i
    (λ a. OneOf decode_answers (number_of a.outcome) × (in_bounds a.session ≡ true)) (λ t j. (refl, j)) (refl, i) (refl, i) (refl, i) in
    let s = (decoder_of mark).session in
    call_holds (OneOf decode_answers) (number_of (decoder_of mark).outcome) (decode_number s (length input) (length out / 2)) _
    r.0 refl (decode_number_lem s (length input) (length out / 2) r.1)

-- ---- none of the lists has 2

pub never_2 : (l : List ℕ) (n : ℕ) → is_one_of l out_of_bounds ≡ false → OneOf l n → ¬ (n ≡ out_of_bounds)
never_2 l n none i e = false_is_true (sym none ∙ ap (is_one_of l) (sym e) ∙ i)
