-- A decoder's run over the bytes of an encoder's ends with the encoder's bands, if it began with them.
use mathlib.Core.List.{List, [], ◌∷◌}
use Rattle.band.specs.declared.Filters.{Filters}
use Rattle.step.specs.Step.{encode_step, decode_step}
use Rattle.step.proofs.Laws.{steps_agree}
use Rattle.runs.specs.Runs.{Pair, filters_after_pairs, bytes_of_pairs, filters_after_bytes}
use Rattle.band.specs.SameBands.{SameBands}

pub runs_agree : (f g : Filters) (ps : List Pair) → SameBands f g
    → SameBands (filters_after_pairs f ps) (filters_after_bytes g (bytes_of_pairs f ps))
unfolding filters_after_pairs bytes_of_pairs filters_after_bytes
runs_agree f g [] h = h
runs_agree f g (p ∷ ps) h =
    let t = encode_step f p.first p.second in
    let e = steps_agree f g p.first p.second h.low h.high in
    runs_agree t.filters (decode_step g t.byte).filters ps (record { low = e.0; high = e.1 })
