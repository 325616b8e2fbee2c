-- A fresh band and fresh filters: everything 0, but det.
use Rattle.std.specs.Prelude.{ℤ, pos, replicate}
use Rattle.band.specs.declared.Band.{Band}
use Rattle.band.specs.declared.Filters.{Filters}

unfoldable pub fresh_band : ℤ → Band
fresh_band det = record {
  s = pos 0;
  sp = pos 0;
  sz = pos 0;
  r1 = pos 0;
  r2 = pos 0;
  a1 = pos 0;
  a2 = pos 0;
  p1 = pos 0;
  p2 = pos 0;
  d1 = pos 0;
  d2 = pos 0;
  d3 = pos 0;
  d4 = pos 0;
  d5 = pos 0;
  d6 = pos 0;
  b1 = pos 0;
  b2 = pos 0;
  b3 = pos 0;
  b4 = pos 0;
  b5 = pos 0;
  b6 = pos 0;
  nb = pos 0;
  det = det;
}

-- x all 0, over two bands
abbrev pub empty_filters : Band → Band → Filters
empty_filters low high = record { x = replicate 24 (pos 0); low = low; high = high }

unfoldable pub fresh_filters : ℤ → ℤ → Filters
fresh_filters low high = empty_filters (fresh_band low) (fresh_band high)
