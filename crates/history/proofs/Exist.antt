-- However a recording is cut, there are workers for it: the theorem on workers speaks of something.
use Prim.Native.Nat.{ℕ, ◌+◌, ◌≤◌, ◌<◌, ◌^◌}
use native.Mathlib.Omega.{arith}
use mathlib.Core.Path.{◌≡◌}
use mathlib.Core.List.{List, [], ◌∷◌, ◌++◌, flatten, append_assoc}
use lib.IntN.{ℤ, pos}
use lib.ListN.{length, replicate, length-replicate}
use Rattle.runs.specs.Rates.{decode_room}
use Rattle.g722.specs.Session.{Decoder, begun as session_begun, decoder_moves, position_most}
use Rattle.g722.specs.Decoding.{decoded_samples}
use Rattle.g722.proofs.Cut.{decode_moves_cut}
use Rattle.life.specs.Life.{fresh, given_by, mark_by, coded, still, further, Life, begun, called, StandsFor}
use Rattle.life.specs.Life.{Worker, Workers, none, next}
use Rattle.life.proofs.Unbroken.{buffer, roomy, stands_by, restored_from}
use Rattle.history.specs.Decoding.{decoding}
use Rattle.history.proofs.Histories.{decoders}
use Rattle.history.proofs.Sessions.{decoder_accepts}

module _ (rate start : ℕ) (r : rate < 2 ^ 32) (ok : (decoding.begin rate start).number ≡ 0) where
  first : Life decoding (fresh decoding rate start) rate start []
  first = begun rate start r ok

  -- a recording at whose end the position is within its bound
  abbrev Fits : List ℕ → Type 0
  Fits bs = decoder_moves rate (length bs) ≤ position_most

  moves_cut : (a b : List ℕ) → decoder_moves rate (length (a ++ b)) ≡ decoder_moves rate (length a) + decoder_moves rate (length b)
  unfolding session_begun
  moves_cut a b = decode_moves_cut (fresh decoding rate start) a b

  -- a session that has read some bytes reads some more, in one call
  reads : {s : Decoder} {h : List ℕ} → Life decoding s rate start h → (bs : List ℕ) → Fits (h ++ bs)
      → (out : List ℤ) × ((decoding.code s bs (length out)).number ≡ 0)
  reads {s} {h} l bs f =
      let room = decode_room rate (length bs) in
      let out = replicate room (pos 0) in
      let long : length out ≡ room = length-replicate room (pos 0) in
      (out, decoder_accepts l bs (length out) (omega (arith, long)) (omega (arith, f, moves_cut h bs)))

  -- a line that stands for some bytes
  line_for : (bs : List ℕ) → Fits bs → (line : List ℕ) × StandsFor decoding line rate start bs
  line_for bs f =
      let a = reads first bs f in
      let w = (decoding.code (fresh decoding rate start) bs (length a.0)).session in
      let l : Life decoding w rate start bs = called first (coded bs a.0 tt a.1) in
      (mark_by decoding w buffer, stands_by l buffer ((decoders.unbroken l).writes (length buffer) roomy))

  worker : (before piece : List ℕ) → Fits (before ++ piece) → (ys : List ℤ) × Worker decoding rate start before piece ys
  worker before piece f =
      let m = line_for before (omega (arith, f, moves_cut before piece)) in
      let s = (decoding.restore (fresh decoding rate start) m.0).session in
      let a = reads (restored_from first m.1) piece f in
      let work = further still (coded piece a.0 tt a.1) in (
        given_by decoding s piece a.0,
        record {
          own = fresh decoding rate start;
          own_rate = rate;
          own_start = start;
          own_history = [];
          own_life = first;
          line = m.0;
          stands = m.1;
          end = (decoding.code s piece (length a.0)).session;
          work = work;
        },
      )

  workers_for : (before : List ℕ) (pieces : List (List ℕ)) → Fits (before ++ flatten pieces)
      → (ys : List ℤ) × Workers decoding rate start before (flatten pieces) ys
  unfolding flatten
  workers_for before [] f = ([], none)
  workers_for before (p ∷ ps) f =
      let g : Fits ((before ++ p) ++ flatten ps) = rw (append_assoc before p (flatten ps)) f in
      let w = worker before p (omega (arith, g, moves_cut (before ++ p) (flatten ps))) in
      let rest = workers_for (before ++ p) ps g in
      (w.0 ++ rest.0, next w.1 rest.1)

  -- cut a recording at will: there are workers for its pieces, and what they write is what one decoder gives out
  pub cut_at_will : (pieces : List (List ℕ)) → Fits (flatten pieces)
      → Workers decoding rate start [] (flatten pieces) (decoded_samples (fresh decoding rate start) (flatten pieces))
  cut_at_will pieces f =
      let w = workers_for [] pieces f in
      rw (decoders.workers w.1) at w.1
