-- What listing a piece comes to, where its decoding refuses and where it is done.
use mathlib.Core.Path.{◌≡◌, sym, ap, ◌∙◌}
use mathlib.Core.List.{List, ◌++◌}
use Prim.Native.Nat.{ℕ, ◌+◌, ◌*◌, ◌≤◌}
use native.Mathlib.Omega.{arith}
use lib.IntN.{ℤ}
use lib.ListN.{length, take, drop, length-append}
use lib.Seq.{sets, sets-eq, length-sets, length-take-le, take-append-le, take-append_seam}
use borrow.Author.Tests.{ne_eqb}
use Rattle.answers.specs.Numbers.{done}
use Rattle.std.specs.Prelude.{Ok, Err}
use Rattle.answers.specs.declared.Answer.{Answer}
use Rattle.answers.specs.declared.Refusal.{Refusal}
use Rattle.answers.specs.Outcomes.{count_of, reply}
use Rattle.answers.proofs.Answered.{ok_is, err_is}
use Rattle.g722.specs.Session.{Decoder}
use Rattle.runs.specs.Rates.{decode_room}
use Rattle.g722.specs.Decoding.{decoder_after, decoded_samples, decode_number, decode_answer, decode_out}
use Rattle.g722.proofs.Numbers.{decode_taken, decode_done}
use Rattle.g722.proofs.Cut.{decoded_length}
use Rattle.rows.specs.Text.{row_most}
use Rattle.rows.specs.Listing.{rows_for, rows_of, list_number, list_answer, list_out}

-- a list stored at the front of a longer one stands there
stored_front : (l m vs : List ℤ) → length vs ≤ length l → take (length vs) (sets l 0 vs ++ m) ≡ vs
stored_front l m vs h =
    take-append-le (length vs) (sets l 0 vs) m (omega (arith, length-sets l 0 vs))
    ∙ ap (take (length vs)) (sets-eq vs l 0 (omega arith))
    ∙ take-append_seam vs (drop (0 + length vs) l)

module _ (first : ℕ) (s : Decoder) (bs : List ℕ) where
  pub list_refused : (out : List ℕ) (room : ℕ) (r : Answer Decoder) {why : Refusal}
      → room ≡ rows_for (length out) → r ≡ decode_answer s bs room → r.outcome ≡ Err why
      → (r ≡ list_answer first s bs (length out)) × ((out ≡ list_out first s bs out) × (count_of r.outcome ≤ length out))
  unfolding decode_answer list_answer list_out
  list_refused out room r k e z =
      let here : r ≡ decode_answer s bs (rows_for (length out)) = rw k at e in
      let n = err_is _ _ (ap (λ (x : Answer Decoder). x.outcome) (sym here) ∙ z) in
      let a = rw (ne_eqb _ _ n) at here in
      (rw (ne_eqb _ _ n) a, (rw (ne_eqb _ _ n), rw z (omega arith)))

  -- decoding gave n samples, into the first places of `all`
  pub record Decoded (out : List ℕ) (all : List ℤ) (r : Answer Decoder) (n : ℕ) : Type 0 where
    pub is_done : list_number s (length bs) (length out) ≡ done
    pub session : r.session ≡ decoder_after s bs
    pub inside : n ≤ length all
    pub samples : take n all ≡ decoded_samples s bs
    pub few : length (decoded_samples s bs) ≤ 2048
    pub roomy : row_most * length (decoded_samples s bs) ≤ length out

  pub decoded : (out : List ℕ) (zs q : List ℤ) (k : ℕ) (r : Answer Decoder) (n : ℕ) → 2048 ≡ length zs → k ≡ rows_for (length out)
      → r ≡ decode_answer s bs (length (take k zs)) → q ≡ decode_out s bs (take k zs) → r.outcome ≡ Ok n → Decoded out (q ++ drop k zs) r n
  unfolding decode_answer
  decoded out zs q k r n l e a o d =
      let ds = decoded_samples s bs in
      let room = length (take k zs) in
      let long : room ≡ k = length-take-le k zs (omega (arith, l, e)) in
      let is = ok_is (decode_number s (length bs) room) (decode_room s.rate (length bs)) (ap (λ (x : Answer Decoder). x.outcome) (sym a) ∙ d) in
      let t = decode_taken s (length bs) room is.0 in
      let w = decode_done s bs (take k zs) is.0 in
      let count : n ≡ length ds = is.1 ∙ sym (decoded_length s bs) in
      let few : length ds ≤ room = omega (arith, decoded_length s bs, t.roomy) in
      record {
        is_done = rw (long, e) at is.0;
        session = ap (λ (x : Answer Decoder). x.session) (a ∙ sym w.0);
        inside = omega (arith, count, few, length-append q (drop k zs), ap length o, ap length w.1, length-sets (take k zs) 0 ds);
        samples = rw (count, o, sym w.1) (stored_front (take k zs) (drop k zs) ds few);
        few = omega (arith, few, long, e);
        roomy = omega (arith, few, long, e);
      }

  pub list_done : (out q : List ℕ) (n : ℕ)
      → list_number s (length bs) (length out) ≡ done → n ≡ length (rows_of first s bs) → q ≡ sets out 0 (rows_of first s bs)
      → (reply done n (decoder_after s bs) ≡ list_answer first s bs (length out)) × (q ≡ list_out first s bs out)
  unfolding list_answer list_out
  list_done out q n e c w = (rw (e, c), rw e w)

  pub listed_session : (room : ℕ) → list_number s (length bs) room ≡ done → (list_answer first s bs room).session ≡ decoder_after s bs
  unfolding list_answer
  listed_session room e = rw e
