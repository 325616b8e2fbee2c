-- One step of G.722 at either end (docs/RULES.md, "G.722").
use Rattle.std.specs.Prelude.{ℕ, ◌+◌, ◌*◌, ◌/◌, ◌%◌, ℤ, pos, ◌+ℤ◌, ◌-ℤ◌}
use Rattle.fixed.specs.Number.{minus, clamp_z}
use Rattle.band.specs.declared.Filters.{Filters}
use Rattle.band.specs.Quantise.{SUBTRA, QUANTL, QUANTH}
use Rattle.band.specs.Adapt.{INVQBL, INVQAH, low_update, high_update}
use Rattle.step.specs.declared.Decoded.{Decoded}
use Rattle.step.specs.declared.Encoded.{Encoded}
use Rattle.step.specs.Qmf.{taking, even_sum, odd_sum, xlow, xhigh, received}

-- block 5: what a band gives out, within 15 bits
abbrev pub LIMIT : ℤ → ℤ
LIMIT v = clamp_z (minus 16384) (pos 16383) v

unfoldable pub decode_step : Filters → ℕ → Decoded
decode_step f byte =
    let ilow = byte % 64 in
    let ihigh = byte / 64 in
    let rlow = LIMIT (f.low.s +ℤ INVQBL f.low.det ilow) in
    let rhigh = LIMIT (f.high.s +ℤ INVQAH f.high.det ihigh) in
    let x = taking f.x (rlow +ℤ rhigh) (rlow -ℤ rhigh) in
    record {
      filters = record { x = x; low = low_update f.low (ilow / 4); high = high_update f.high ihigh };
      first = received (even_sum x);
      second = received (odd_sum x);
    }

unfoldable pub encode_step : Filters → ℤ → ℤ → Encoded
encode_step f a b =
    let x = taking f.x a b in
    let ilow = QUANTL (SUBTRA (xlow x) f.low.s) f.low.det in
    let ihigh = QUANTH (SUBTRA (xhigh x) f.high.s) f.high.det in
    record {
      filters = record { x = x; low = low_update f.low (ilow / 4); high = high_update f.high ihigh };
      byte = 64 * ihigh + ilow;
    }
