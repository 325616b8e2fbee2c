-- Some runs from the zero start at 16000, computed.
use mathlib.Core.Path.{◌≡◌, refl}
use mathlib.Core.List.{[], ◌∷◌, zip_with}
use lib.IntN.{pos, negsuc}
use Rattle.fixed.specs.Number.{clamp_z}
use Rattle.band.specs.Fresh.{fresh_band, fresh_filters}
use Rattle.band.specs.Adapt.{low_update, high_update}
use Rattle.step.specs.Step.{decode_step}
use Rattle.g722.specs.Session.{Decoder, begun as session_begun, start_begun, fresh_at}
use Rattle.runs.specs.Runs.{kept_of, kept_at, pairs_of_bytes}
use Rattle.g722.specs.Decoding.{decoded_samples}

abbrev pub begun : Decoder
begun = (session_begun 16000 0).session

pub of_A0 : decoded_samples begun (160 ∷ []) ≡ pos 0 ∷ pos 0 ∷ []
unfolding session_begun start_begun fresh_at fresh_filters fresh_band decoded_samples kept_at kept_of pairs_of_bytes
    decode_step low_update high_update clamp_z zip_with
of_A0 = refl

pub of_A0_A0 : decoded_samples begun (160 ∷ 160 ∷ []) ≡ pos 0 ∷ pos 0 ∷ pos 0 ∷ negsuc 0 ∷ []
unfolding session_begun start_begun fresh_at fresh_filters fresh_band decoded_samples kept_at kept_of pairs_of_bytes
    decode_step low_update high_update clamp_z zip_with
of_A0_A0 = refl

pub of_A0_04 : decoded_samples begun (160 ∷ 4 ∷ []) ≡ pos 0 ∷ pos 0 ∷ negsuc 0 ∷ pos 0 ∷ []
unfolding session_begun start_begun fresh_at fresh_filters fresh_band decoded_samples kept_at kept_of pairs_of_bytes
    decode_step low_update high_update clamp_z zip_with
of_A0_04 = refl
