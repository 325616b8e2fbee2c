-- A decoder whose history is the bytes of an encoder from the same start has the encoder's bands, number for number, whatever the
-- two rates.
use Prim.Native.Nat.{ℕ}
use mathlib.Core.Path.{◌≡◌, refl, ap}
use mathlib.Core.List.{List, []}
use lib.IntN.{ℤ}
use Rattle.band.specs.declared.Filters.{Filters}
use Rattle.g722.specs.declared.Encoding.{Encoding}
use Rattle.g722.specs.declared.Decoding.{Decoding}
use Rattle.g722.specs.Session.{Encoder, Decoder}
use Rattle.g722.specs.Encoding.{encoded_bytes}
use Rattle.g722.proofs.Agree.{sessions_agree, begun_agree}
use Rattle.band.specs.SameBands.{SameBands}
use Rattle.life.specs.Life.{fresh, Life, Workers}
use Rattle.history.specs.Encoding.{encoding}
use Rattle.history.specs.Decoding.{decoding}
use Rattle.history.proofs.Histories.{encoders, decoders}

-- what two sessions of such histories have, as the runs over them stand
agree : {e : Encoder} {d : Decoder} {rate rate' start : ℕ} {xs : List ℤ} → Life encoding e rate start xs → {bs : List ℕ}
    → Life decoding d rate' start bs → bs ≡ encoded_bytes (fresh encoding rate start) xs → SameBands e.filters d.filters
agree {e} {d} {rate} {rate'} {start} {xs} p q is =
    let begun = begun_agree Encoding Decoding rate rate' start in
    rw ((encoders.unbroken p).session, (decoders.unbroken q).session, is)
    (sessions_agree (fresh encoding rate start) (fresh decoding rate' start) xs
    (record { low = ap (λ (f : Filters). f.low) begun; high = ap (λ (f : Filters). f.high) begun }))

-- any two lives, begun, cut, refused and restored at will
pub bands_agree : {e : Encoder} {d : Decoder} {rate rate' start : ℕ} {xs : List ℤ} → Life encoding e rate start xs
    → Life decoding d rate' start (encoded_bytes (fresh encoding rate start) xs) → SameBands e.filters d.filters
bands_agree p q = agree p q refl

-- the same where the decoder's history is the bytes as workers wrote them, one after the other
pub workers_bands_agree : {e : Encoder} {d : Decoder} {rate rate' start : ℕ} {xs : List ℤ} {bs : List ℕ} → Life encoding e rate start xs
    → Workers encoding rate start [] xs bs → Life decoding d rate' start bs → SameBands e.filters d.filters
workers_bands_agree p w q = agree p q (encoders.workers w)
