-- The session takes what is left of the bytes as the first one takes them all, so no piece is refused.
use Rattle.std.proofs.Common.{◌≡◌, sym, ap, ◌∙◌, List, ◌++◌, ℕ, ◌+◌, ◌≤◌, arith, length}
use Rattle.std.proofs.Math.ListN.{length-append}
use Rattle.std.proofs.lemmas.List.{nil_from_length}
use Rattle.answers.specs.declared.Answer.{Answer}
use Rattle.g722.specs.Session.{Decoder}
use Rattle.g722.specs.Decoding.{decoder_after}
use Rattle.g722.proofs.Cut.{decoder_cut}
use Rattle.rows.specs.Listing.{list_answer, Ready}
use Rattle.rows.proofs.Pieces.{listed_session}
use Rattle.rows.proofs.Stops.{ready_lists, ready_after, ready_fewer, ready_none}

-- s is the session after the bytes before `rest`
pub record Running (before : Decoder) (bytes : List ℕ) (s : Decoder) (rest : List ℕ) : Type 0 where
  pub ready : Ready s (length rest)
  pub whole : decoder_after s rest ≡ decoder_after before bytes

module _ {before : Decoder} {bytes : List ℕ} {s : Decoder} {rest : List ℕ} (w : Running before bytes s rest) where
  pub more : (piece later : List ℕ) → rest ≡ piece ++ later → length piece ≤ 1024 → (room : ℕ) → 36864 ≤ room
      → (first : ℕ) (r : Answer Decoder) → r ≡ list_answer first s piece room → Running before bytes r.session later
  more piece later cut small room roomy first r a =
      let here : Ready s (length piece + length later) = ready_fewer s (length rest) _ (omega (arith, ap length cut, length-append piece later)) w.ready in
      let done = ready_lists s (length piece) room (ready_fewer s _ _ (omega arith) here) small roomy in
      let next : r.session ≡ decoder_after s piece = ap (λ (x : Answer Decoder). x.session) a ∙ listed_session first s piece room done in
      record {
        ready = rw next (ready_after s piece (length later) here);
        whole = ap (λ (x : Decoder). decoder_after x later) next ∙ sym (decoder_cut s piece later) ∙ ap (decoder_after s) (sym cut) ∙ w.whole;
      }

  pub ends : length rest ≡ 0 → s ≡ decoder_after before bytes
  ends none =
      let stops = ready_fewer s (length rest) 0 (omega arith) w.ready in
      sym (ready_none s stops) ∙ ap (decoder_after s) (sym (nil_from_length rest none)) ∙ w.whole
