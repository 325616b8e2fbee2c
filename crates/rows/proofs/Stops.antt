-- Where to stop: the bytes that fit are the most that decoding takes; and as long as bytes fit, no piece is refused.
use mathlib.Core.Path.{◌≡◌, refl}
use mathlib.Core.List.{List, []}
use Prim.Native.Nat.{ℕ, ◌+◌, ◌*◌, ◌≤◌}
use native.Mathlib.Omega.{arith}
use lib.ListN.{length}
use Rattle.answers.specs.Numbers.{done}
use Rattle.runs.specs.Rates.{decode_room}
use Rattle.g722.specs.declared.Decoding.{Decoding}
use Rattle.g722.specs.Session.{Decoder, decoder_moves, begun}
use Rattle.runs.specs.Runs.{filters_after_bytes}
use Rattle.g722.specs.Decoding.{decoder_after, decode_number}
use Rattle.g722.proofs.Numbers.{decode_taken, taken_decodes}
use Rattle.g722.proofs.Sound.{begun_in, decoder_after_in}
use Rattle.rows.specs.Listing.{list_number, fitting_bytes, Ready, zero_start}

-- at 16000 each byte moves the position by two
moves : (s : Decoder) (n : ℕ) → s.rate ≡ 16000 → decoder_moves s.rate n ≡ 2 * n
unfolding decoder_moves decode_room
moves s n e = rw e

room : (s : Decoder) (n : ℕ) → s.rate ≡ 16000 → decode_room s.rate n ≡ 2 * n
unfolding decode_room
room s n e = rw e

module _ (s : Decoder) where
  pub ready_decodes : (n k : ℕ) → Ready s n → 2 * n ≤ k → decode_number s n k ≡ done
  ready_decodes n k r h =
      taken_decodes s n k
      (record { inside = r.inside; roomy = omega (arith, room s n r.rate); not_past = omega (arith, moves s n r.rate, r.fits) })

  -- a piece of at most 1,024 bytes
  pub ready_lists : (n k : ℕ) → Ready s n → n ≤ 1024 → 36864 ≤ k → list_number s n k ≡ done
  ready_lists n k r h l = ready_decodes n _ r (omega arith)

  pub ready_after : (a : List ℕ) (n : ℕ) → Ready s (length a + n) → Ready (decoder_after s a) n
  unfolding decoder_after
  ready_after a n r =
      let m = moves s (length a) r.rate in
      record { rate = r.rate; inside = decoder_after_in s a (omega (arith, m, r.fits)) r.inside; fits = omega (arith, m, r.fits) }

  pub ready_none : Ready s 0 → decoder_after s [] ≡ s
  unfolding decoder_after filters_after_bytes
  ready_none r = let stays : s.position + decoder_moves s.rate 0 ≡ s.position = omega (arith, moves s 0 r.rate) in rw stays

  pub ready_fewer : (n k : ℕ) → k ≤ n → Ready s n → Ready s k
  ready_fewer n k h r = record { rate = r.rate; inside = r.inside; fits = omega (arith, r.fits) }

  -- what fits is taken, and no more would be
  pub ready_fitting : (n : ℕ) → Ready s 0 → Ready s (fitting_bytes s.position n)
  unfolding fitting_bytes
  ready_fitting n r = record { rate = r.rate; inside = r.inside; fits = omega (arith, r.fits) }

  pub fitting_most : (n k room : ℕ) → s.rate ≡ 16000 → k ≤ n → decode_number s k room ≡ done → k ≤ fitting_bytes s.position n
  unfolding fitting_bytes
  fitting_most n k room e h d = omega (arith, moves s k e, (decode_taken s k room d).not_past)

pub ready_begun : Ready zero_start 0
unfolding begun
ready_begun = record { rate = refl; inside = begun_in Decoding 16000 0; fits = omega arith }
