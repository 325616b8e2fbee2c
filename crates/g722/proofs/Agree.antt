-- A decoder that is given an encoder's bytes has the encoder's bands, at whatever rates, if their bands were the same.
use Prim.Native.Nat.{ℕ}
use mathlib.Core.Path.{◌≡◌, refl}
use mathlib.Core.List.{List}
use lib.IntN.{ℤ}
use Rattle.runs.specs.Runs.{pairs_at}
use Rattle.band.specs.SameBands.{SameBands}
use Rattle.runs.proofs.Agree.{runs_agree}
use Rattle.g722.specs.Session.{Encoder, Decoder, begun}
use Rattle.g722.specs.Encoding.{encoder_after, encoded_bytes}
use Rattle.g722.specs.Decoding.{decoder_after}

pub sessions_agree : (e : Encoder) (d : Decoder) (xs : List ℤ) → SameBands e.filters d.filters
    → SameBands (encoder_after e xs).filters (decoder_after d (encoded_bytes e xs)).filters
unfolding encoder_after encoded_bytes decoder_after
sessions_agree e d xs h = runs_agree e.filters d.filters (pairs_at e.rate xs) h

-- both kinds are begun with the same filters
pub begun_agree : (K L : Type 0) (rate rate' start : ℕ) → (begun {K = K} rate start).session.filters ≡ (begun {K = L} rate' start).session.filters
unfolding begun
begun_agree K L rate rate' start = refl
