-- What coding answers and leaves in both lent buffers, where it is refused and where it is done.
use mathlib.Core.Bool.{Bool, true, false, cond, not}
use mathlib.Core.List.{List}
use mathlib.Core.Path.{◌≡◌, refl, sym, ap, ◌∙◌}
use Prim.Native.Nat.{ℕ, ◌/◌, ◌≤◌}
use native.Mathlib.Omega.{arith}
use lib.Dec.{eqb, ltb}
use lib.ListN.{length}
use lib.Seq.{sets}
use borrow.Author.Tests.{eqb-false, ne_eqb, ltb-false, not-true}
use Rattle.answers.specs.declared.Answer.{Answer}
use Rattle.answers.specs.Numbers.{done, odd_count, no_room}
use Rattle.answers.specs.Lent.{leaves}
use Rattle.answers.specs.Outcomes.{number_of}
use Rattle.samples.specs.Bytes.{samples, bytes}
use Rattle.samples.proofs.Bytes.{length-samples}
use Rattle.band.specs.Bounds.{all_words}
use Rattle.g722.specs.declared.Session.{Session}
use Rattle.g722.specs.declared.Encoding.{Encoding}
use Rattle.g722.specs.declared.Decoding.{Decoding}
use Rattle.g722.specs.Session.{Encoder, Decoder, in_bounds}
use Rattle.g722.specs.Encoding.{encoder_after, encoded_bytes, encode_from_bytes_number, encode_from_bytes_answer, encode_from_bytes_out}
use Rattle.g722.specs.Decoding.{decoder_after, decoded_samples, decode_number, decode_to_bytes_answer, decode_to_bytes_out}
use Rattle.g722.proofs.AsBytes.{encoded_from_bytes, decoded_to_bytes}
use Rattle.g722.proofs.Numbers.{from_bytes_taken, decode_taken}
use Rattle.g722.proofs.Sound.{encoder_after_in, decoder_after_in}
use Rattle.line.specs.Letters.{letter_e, letter_d}
use Rattle.mark.specs.Answer.{rate_most}
use Rattle.mark.specs.Marks.{session_line, write_answer, write_out}
use Rattle.mark.proofs.Short.{writes}
use Rattle.calls.specs.G722.{call_number, restored}

-- ---- the tests of a call

-- a test whose number is not 0 was not met where the number is 0
pub passed : (t : Bool) (k rest : ℕ) → (t ≡ true → k ≡ 0 → ⊥) → cond t k rest ≡ 0 → (t ≡ false) × (rest ≡ 0)
passed true k rest h e = absurd (h refl e)
passed false k rest h e = (refl, e)

-- what the tests say that were passed
pub record Taken (coded room : ℕ) : Type 0 where
  pub codes : coded ≡ done
  pub roomy : 512 ≤ room

pub taken : (restored coded room : ℕ) → call_number restored coded room ≡ done → Taken coded room
unfolding call_number
taken restored coded room e =
    let a = passed (not (eqb restored done)) restored _ (λ t. eqb-false restored done (not-true _ t)) e in
    let b = passed (eqb coded odd_count) odd_count _ (λ t z. omega (arith, z)) a.1 in
    let c = passed (ltb room 512) no_room _ (λ t z. omega (arith, z)) b.1 in
    record { codes = c.1; roomy = ltb-false room 512 c.0 }

-- ---- a call of either kind

-- a kind's letter; and of an input and an output's room the coder's number of a session, the session after, and what is written
pub record Coder (K : Type 0) : Type 0 where
  pub letter : ℕ
  pub number : Session K → ℕ
  pub after : Session K → Session K
  pub items : Session K → List ℕ

-- what coding s leaves where it is done
pub record Codes {K : Type 0} (d : Coder K) (s : Session K) (out : List ℕ) (coded : Session K) (left : List ℕ) : Type 0 where
  pub fits : (d.after s).rate ≤ rate_most
  pub inside : in_bounds (d.after s) ≡ true
  pub session : coded ≡ d.after s
  pub output : left ≡ sets out 0 (d.items s)

module _ {K : Type 0} (d : Coder K) (mark next : List ℕ) where
  abbrev session : Session K
  session = (restored d.letter mark).session

  abbrev number : ℕ
  number = call_number (number_of (restored {K = K} d.letter mark).outcome) (d.number session) (length next)

  -- what the call answers, and what it leaves in both buffers
  pub record Left (out : List ℕ) (answered : ℕ) (left written : List ℕ) : Type 0 where
    pub value : answered ≡ number
    pub output : left ≡ leaves number (d.items session) out
    pub mark_after : written ≡ leaves number (session_line d.letter (d.after session)) next

  -- k is the number of a call whose mark restores to r
  pub record Call (r : Answer (Session K)) (k : ℕ) : Type 0 where
    pub restores : r ≡ restored d.letter mark
    pub coded : ℕ
    pub coded_is : coded ≡ d.number r.session
    pub number_is : k ≡ call_number (number_of r.outcome) coded (length next)

  module _ {r : Answer (Session K)} {k : ℕ} (call : Call r k) where
    is_number : k ≡ number
    is_number = call.number_is ∙ rw (call.coded_is, call.restores)

    pub call_refused : (out : List ℕ) → ¬ (k ≡ done) → Left out k out next
    call_refused out z =
        let t = ne_eqb number done (λ e. z (is_number ∙ e)) in
        record { value = is_number; output = rw t; mark_after = rw t }

    -- the mark of the session after is written: 512 bytes hold it
    pub call_done : k ≡ done → {out left written : List ℕ} (a w : Answer (Session K)) → (d.number r.session ≡ done → Codes d r.session out a.session left)
        → w ≡ write_answer d.letter a.session (length next) → written ≡ write_out d.letter a.session next → Left out (number_of w.outcome) left written
    unfolding write_answer write_out
    call_done is_done {out} {left} a w codes w_is written_is =
        let z = sym is_number ∙ is_done in
        let t = taken _ call.coded (length next) (sym call.number_is ∙ is_done) in
        let c : Codes d session out a.session left = rw call.restores at (codes (sym call.coded_is ∙ t.codes)) in
        let s = d.after session in
        let e = writes d.letter s.rate s.start s.position s.filters (length next) c.fits c.inside t.roomy in
        record { value = rw (w_is, c.session, e, z); output = rw z c.output; mark_after = rw (z, written_is, c.session, e) }

-- ---- the two coders

module _ (input out : List ℕ) where
  abbrev pub encoder : Coder Encoding
  encoder = record {
    letter = letter_e;
    number = λ s. encode_from_bytes_number s (length input) (length out);
    after = λ s. encoder_after s (samples input);
    items = λ s. encoded_bytes s (samples input);
  }

  pub encodes : (s : Encoder) → all_words (samples input) ≡ true → s.rate ≤ rate_most → {a : Answer Encoder} {left : List ℕ}
      → a ≡ encode_from_bytes_answer s input (length out) → left ≡ encode_from_bytes_out s input out
      → encoder.number s ≡ done → Codes encoder s out a.session left
  unfolding encoder_after
  encodes s words fits answer written z =
      let f = encoded_from_bytes s input out z in
      let t = (from_bytes_taken s (length input) (length out) z).1 in
      let moved = rw (← length-samples input) at t.not_past in
      record {
        fits = fits;
        inside = encoder_after_in s (samples input) words moved t.inside;
        session = ap (λ (x : Answer Encoder). x.session) answer ∙ f.0;
        output = written ∙ f.1;
      }

  abbrev pub decoder : Coder Decoding
  decoder = record {
    letter = letter_d;
    number = λ s. decode_number s (length input) (length out / 2);
    after = λ s. decoder_after s input;
    items = λ s. bytes (decoded_samples s input);
  }

  pub decodes : (s : Decoder) → s.rate ≤ rate_most → {a : Answer Decoder} {left : List ℕ}
      → a ≡ decode_to_bytes_answer s input (length out) → left ≡ decode_to_bytes_out s input out
      → decoder.number s ≡ done → Codes decoder s out a.session left
  unfolding decoder_after
  decodes s fits answer written z =
      let f = decoded_to_bytes s input out z in
      let t = decode_taken s (length input) (length out / 2) z in
      record {
        fits = fits;
        inside = decoder_after_in s input t.not_past t.inside;
        session = ap (λ (x : Answer Decoder). x.session) answer ∙ f.0;
        output = written ∙ f.1;
      }
