-- What the bounds of a session say of each of its numbers.
use Prim.Native.Nat.{ℕ, ◌≤◌}
use mathlib.Core.Path.{◌≡◌}
use mathlib.Core.Bool.{true, ◌&&◌}
use lib.IntN.{ℤ, pos, negsuc, neg_ℤ, ◌-ℤ◌}
use lib.ListN.{length}
use lib.Dec.{eqb, leb}
use borrow.Author.Tests.{leb-true, eqb-true}
use Rattle.fixed.specs.Number.{In}
use Rattle.band.specs.declared.Band.{Band}
use Rattle.band.specs.declared.Filters.{Filters}
use Rattle.band.specs.Bounds.{between, all_words, band_in_bounds, filters_in_bounds}
use Rattle.band.proofs.Boxes.{left, right, in_between}
use Rattle.g722.specs.Session.{position_most, session_in_bounds}
use Rattle.mark.specs.Numbers.{band_numbers}

pub record BandInside (b : Band) (top : ℤ) : Type 0 where
  pub words : all_words (band_numbers b) ≡ true
  pub nb : In (pos 0) top b.nb
  pub det : In (pos 0) (pos 16384) b.det

band_inside : (b : Band) (top : ℤ) → band_in_bounds b top ≡ true → BandInside b top
unfolding band_in_bounds
band_inside b top e =
    let rest = pos 15360 -ℤ b.a2 in
    let poles = between (negsuc 12287) (pos 12288) b.a2 && between (neg_ℤ rest) rest b.a1 in
    let nb = between (pos 0) top b.nb in
    let det = between (pos 0) (pos 16384) b.det in
    let tests = right (all_words (band_numbers b)) (poles && nb && det) e in
    record {
      words = left (all_words (band_numbers b)) (poles && nb && det) e;
      nb = in_between (pos 0) top b.nb (right poles nb (left (poles && nb) det tests));
      det = in_between (pos 0) (pos 16384) b.det (right (poles && nb) det tests);
    }

pub record Inside (start position : ℕ) (f : Filters) : Type 0 where
  pub start_is : start ≤ 1
  pub position_is : position ≤ position_most
  pub filters : filters_in_bounds f ≡ true
  pub x_long : length f.x ≡ 24
  pub x_words : all_words f.x ≡ true
  pub low : BandInside f.low (pos 18432)
  pub high : BandInside f.high (pos 22528)

pub inside : (start position : ℕ) (f : Filters) → session_in_bounds start position f ≡ true → Inside start position f
unfolding session_in_bounds filters_in_bounds
inside start position f e =
    let long = eqb (length f.x) 24 in
    let low = band_in_bounds f.low (pos 18432) in
    let high = band_in_bounds f.high (pos 22528) in
    let x = long && all_words f.x in
    let rest = right (leb start 1) (leb position position_most && (x && (low && high))) e in
    let filters = right (leb position position_most) (x && (low && high)) rest in
    let of_x = left x (low && high) filters in
    let of_bands = right x (low && high) filters in
    record {
      start_is = leb-true start 1 (left (leb start 1) (leb position position_most && (x && (low && high))) e);
      position_is = leb-true position position_most (left (leb position position_most) (x && (low && high)) rest);
      filters = filters;
      x_long = eqb-true (length f.x) 24 (left long (all_words f.x) of_x);
      x_words = right long (all_words f.x) of_x;
      low = band_inside f.low (pos 18432) (left low high of_bands);
      high = band_inside f.high (pos 22528) (right low high of_bands);
    }
