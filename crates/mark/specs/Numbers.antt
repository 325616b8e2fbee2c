-- The numbers of the filters in the order of a mark line, and the filters that such numbers say (docs/RULES.md, "Mark lines").
use Rattle.std.specs.Prelude.{ℕ, List, [], ◌∷◌, ◌++◌, ℤ, pos, get_or, take, drop}
use Rattle.band.specs.declared.Band.{Band}
use Rattle.band.specs.declared.Filters.{Filters}

-- a band's, and the band of such
abbrev pub band_numbers : Band → List ℤ
band_numbers k =
    k.s ∷ k.sp ∷ k.sz ∷ k.r1 ∷ k.r2 ∷ k.a1 ∷ k.a2 ∷ k.p1 ∷ k.p2
    ∷ k.d1 ∷ k.d2 ∷ k.d3 ∷ k.d4 ∷ k.d5 ∷ k.d6
    ∷ k.b1 ∷ k.b2 ∷ k.b3 ∷ k.b4 ∷ k.b5 ∷ k.b6 ∷ k.nb ∷ k.det ∷ []

abbrev pub band_of : List ℤ → Band
band_of n =
    let at : ℕ → ℤ = λ i. get_or n i (pos 0) in
    record {
      s = at 0;
      sp = at 1;
      sz = at 2;
      r1 = at 3;
      r2 = at 4;
      a1 = at 5;
      a2 = at 6;
      p1 = at 7;
      p2 = at 8;
      d1 = at 9;
      d2 = at 10;
      d3 = at 11;
      d4 = at 12;
      d5 = at 13;
      d6 = at 14;
      b1 = at 15;
      b2 = at 16;
      b3 = at 17;
      b4 = at 18;
      b5 = at 19;
      b6 = at 20;
      nb = at 21;
      det = at 22;
    }

-- x, the low band, the high band: 24 + 23 + 23 numbers
unfoldable pub filters_numbers : Filters → List ℤ
filters_numbers f = f.x ++ (band_numbers f.low ++ band_numbers f.high)

-- the filters of those numbers
unfoldable pub filters_of : List ℤ → Filters
filters_of vs = record { x = take 24 vs; low = band_of (drop 24 vs); high = band_of (drop 47 vs) }
