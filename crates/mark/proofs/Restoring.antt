-- What reading a line gives, case by case, and what restoring answers by it.
use Prim.Native.Nat.{ℕ}
use native.Mathlib.Omega.{arith}
use mathlib.Core.Path.{◌≡◌, refl, sym, ap, ◌∙◌}
use mathlib.Core.Bool.{Bool, true, false, cond, not, false≢true}
use mathlib.Core.List.{List}
use lib.IntN.{ℤ, pos, negsuc, nat_abs}
use lib.ListN.{length, drop, get_or}
use lib.Seq.{sets}
use lib.Signed.{le_z, non_neg}
use lib.Dec.{eqb}
use borrow.Author.Tests.{le-leb, leb-true, eq-eqb, ne_eqb}
use Rattle.std.specs.Prelude.{Option, Some, None, Result, Ok, Err}
use Rattle.std.specs.Bool.{then_some}
use Rattle.std.specs.Option.{ok_or}
use Rattle.std.specs.Result.{IsErrAnd}
use Rattle.std.specs.Int.{FitsUnsignedBits}
use Rattle.answers.specs.Numbers.{done, number_out_of_bounds}
use Rattle.answers.specs.Outcomes.{refusal_of, reply}
use Rattle.answers.specs.declared.Answer.{Answer}
use Rattle.answers.specs.declared.Refusal.{Refusal}
use Rattle.answers.specs.declared.Refusal.TheVariants.{OutOfBounds, Malformed, OtherKind, NumberOutOfBounds}
use Rattle.band.specs.declared.Filters.{Filters}
use Rattle.band.specs.Bounds.{filters_in_bounds}
use Rattle.band.proofs.Boxes.{left, right}
use Rattle.g722.specs.declared.Session.{Session}
use Rattle.g722.specs.Session.{session_at, in_bounds}
use Rattle.line.specs.Line.{plain_two, read_line, line_numbers}
use Rattle.line.specs.declared.Line.{Line}
use Rattle.line.proofs.LineTexts.{line_read}
use Rattle.text.proofs.Buffer.{sets_all}
use Rattle.mark.specs.Numbers.{filters_of}
use Rattle.mark.specs.Answer.{rate_most, number_count, start_of, numbers_in_bounds, text_number, text_session, session_of}
use Rattle.mark.specs.Answer.{restore_number, restored_session}
use Rattle.mark.specs.Marks.{restore_answer}
use Rattle.mark.specs.Reading.{said_by, text_said, reading}

-- ---- the session of a start letter and numbers

-- an u32 holds a number that is not below 0 exactly where it is not above the most
most : (z : ℤ) → non_neg z ≡ true → FitsUnsignedBits 32 z → le_z z (pos rate_most) ≡ true
most (pos n) p h = le-leb n rate_most (omega arith)
most (negsuc n) p h = absurd h

above : (z : ℤ) → non_neg z ≡ true → ¬ FitsUnsignedBits 32 z → le_z z (pos rate_most) ≡ false
above (pos n) p h = by_test (le_z (pos n) (pos rate_most)) refl
  where
    by_test : (b : Bool) → le_z (pos n) (pos rate_most) ≡ b → le_z (pos n) (pos rate_most) ≡ false
    by_test false e = e
    by_test true e = absurd (let k = leb-true n rate_most e in h (omega arith))
above (negsuc n) p h = absurd (false≢true p)

abbrev filters_in : List ℤ → Option Filters
filters_in vs = let f = filters_of (drop 2 vs) in then_some (filters_in_bounds f) f

plain_at : (vs : List ℤ) → plain_two vs ≡ true → (non_neg (get_or vs 0 (pos 0)) ≡ true) × (non_neg (get_or vs 1 (pos 0)) ≡ true)
unfolding plain_two
plain_at vs p = let v = non_neg (get_or vs 0 (pos 0)) in let w = non_neg (get_or vs 1 (pos 0)) in (left v w p, right v w p)

abbrev Fits : List ℤ → ℕ → Type 0
Fits vs i = FitsUnsignedBits 32 (get_or vs i (pos 0))

module _ {K : Type 0} (letter : ℕ) (vs : List ℤ) (plain : plain_two vs ≡ true) where
  pub rate_out : ¬ Fits vs 0 → None ≡ said_by {K = K} letter vs
  unfolding said_by numbers_in_bounds
  rate_out n = rw (above (get_or vs 0 (pos 0)) (plain_at vs plain).0 n)

  module _ (rate : Fits vs 0) where
    pub position_out : ¬ Fits vs 1 → None ≡ said_by {K = K} letter vs
    unfolding said_by numbers_in_bounds
    position_out n = rw (most (get_or vs 0 (pos 0)) (plain_at vs plain).0 rate, above (get_or vs 1 (pos 0)) (plain_at vs plain).1 n)

    module _ (position : Fits vs 1) where
      pub filters_out : None ≡ filters_in vs → None ≡ said_by {K = K} letter vs
      unfolding said_by numbers_in_bounds
      filters_out e = rw (most (get_or vs 0 (pos 0)) (plain_at vs plain).0 rate, most (get_or vs 1 (pos 0)) (plain_at vs plain).1 position) (by_test (filters_in_bounds (filters_of (drop 2 vs))) e)
        where
          by_test : (b : Bool) → None ≡ then_some b (filters_of (drop 2 vs))
              → None ≡ then_some b (session_of {K = K} letter vs)
          by_test true e = cc
          by_test false e = refl

      pub all_in : (f : Filters) → Some f ≡ filters_in vs
          → Some (session_at {K = K} (nat_abs (get_or vs 0 (pos 0))) (start_of letter) (nat_abs (get_or vs 1 (pos 0))) f) ≡ said_by letter vs
      unfolding said_by numbers_in_bounds
      all_in f e = rw (most (get_or vs 0 (pos 0)) (plain_at vs plain).0 rate, most (get_or vs 1 (pos 0)) (plain_at vs plain).1 position) (by_test (filters_in_bounds (filters_of (drop 2 vs))) e)
        where
          by_test : (b : Bool) → Some f ≡ then_some b (filters_of (drop 2 vs))
              → Some (session_at {K = K} (nat_abs (get_or vs 0 (pos 0))) (start_of letter) (nat_abs (get_or vs 1 (pos 0))) f)
              ≡ then_some b (session_of letter vs)
          by_test true e = let same : f ≡ filters_of (drop 2 vs) = cc in rw same
          by_test false e = cc

-- ---- a text

-- the numbers that a line leaves in a buffer
pub numbers_read : (text : List ℕ) (l : Line) (o : List ℤ) → length o ≡ number_count
    → read_line number_count text ≡ Some l → sets o 0 (line_numbers number_count text) ≡ line_numbers number_count text
numbers_read text l o many e = sets_all o _ ((line_read number_count text l.kind l.start l.count e).many ∙ sym many)

module _ {K : Type 0} (kind : ℕ) (text : List ℕ) where
  -- where no line is read, what the question mark hands on
  pub no_line : (o : Option Line) (x : Refusal) (r : Result (Session K) Refusal) → o ≡ read_line number_count text → o ≡ None
      → Err x ≡ ok_or o Malformed → IsErrAnd r (λ y. y ≡ x) → r ≡ reading kind text
  unfolding reading
  no_line (Some l) x r is none e h = cc
  no_line None x (Ok t) is none e h = absurd h
  no_line None x (Err y) is none e h = let same : x ≡ Malformed = cc in rw (sym is) (ap Err (h ∙ same))

  module _ (l : Line) (found : read_line number_count text ≡ Some l) where
    pub not_whole : ¬ (l.count ≡ length text) → Err Malformed ≡ reading {K = K} kind text
    unfolding reading
    not_whole n = rw (found, ne_eqb l.count (length text) n)

    module _ (whole : l.count ≡ length text) where
      pub of_other_kind : ¬ (l.kind ≡ kind) → Err OtherKind ≡ reading {K = K} kind text
      unfolding reading
      of_other_kind n = rw (found, eq-eqb l.count (length text) whole, ne_eqb l.kind kind n)

      pub line_said : (o : Option (Session K)) (r : Result (Session K) Refusal) → l.kind ≡ kind
          → o ≡ said_by l.start (line_numbers number_count text) → r ≡ ok_or o NumberOutOfBounds → r ≡ reading kind text
      unfolding reading said_by
      line_said o r s is e =
          e ∙ rw (is, found, eq-eqb l.count (length text) whole, eq-eqb l.kind kind s) (by_bounds (numbers_in_bounds (line_numbers number_count text)))
        where
          by_bounds : (b : Bool) → let n = cond (not b) number_out_of_bounds done in
              ok_or (then_some b (session_of {K = K} l.start (line_numbers number_count text))) NumberOutOfBounds
              ≡ cond (eqb n done) (Ok (session_of l.start (line_numbers number_count text))) (Err (refusal_of n))
          by_bounds true = refl
          by_bounds false = refl

-- ---- restoring

module _ {K : Type 0} (letter : ℕ) (s : Session K) (text : List ℕ) where
  abbrev pub answer_of : Result (Session K) Refusal → Answer (Session K)
  answer_of (Ok t) = record { outcome = Ok 0; session = t }
  answer_of (Err refusal) = record { outcome = Err refusal; session = s }

  pub outside : in_bounds s ≡ false → answer_of (Err OutOfBounds) ≡ restore_answer letter s text
  unfolding restore_number restore_answer
  outside e = rw e refl

  pub restored : in_bounds s ≡ true → (r : Result (Session K) Refusal) → r ≡ reading letter text → answer_of r ≡ restore_answer letter s text
  unfolding reading restore_number restored_session restore_answer
  restored e r is = ap answer_of is ∙ rw e (go (read_line number_count text))
    where
      vs : List ℤ
      vs = line_numbers number_count text

      by_test : (b : Bool) (t : Session K) (refusal : Refusal)
          → answer_of (cond b (Ok t) (Err refusal))
          ≡ cond b (record { outcome = Ok 0; session = t }) (record { outcome = cond b (Ok 0) (Err refusal); session = s })
      by_test true t refusal = refl
      by_test false t refusal = refl

      go : (line : Option Line) → let n = text_number letter (length text) vs line in
          answer_of (text_said letter (length text) vs line) ≡ cond (eqb n done) (reply done 0 (text_session s vs line)) (reply n 0 s)
      go None = refl
      go (Some l) = by_test (eqb (text_number letter (length text) vs (Some l)) done) (session_of l.start vs) _
