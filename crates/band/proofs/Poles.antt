-- The bound of the first pole coefficient, a1_and_a2_most less the second, which UPPOL1 keeps.
use lib.IntN.{ℤ, pos, neg_ℤ, ◌-ℤ◌}
use lib.Signed.{◌≤ℤ◌}
use mathlib.Core.Path.{◌≡◌, sym, subst}
use Rattle.fixed.specs.Number.{minus, In, sat}
use Rattle.fixed.proofs.Signed.{≤_trans, clamp_id, clamp_in, in_clamp, in_from, neg_le, in_neg, within}
use Rattle.band.specs.Bounds.{a2_most, a1_and_a2_most}
use Rattle.band.specs.Block4.{UPPOL1}

module _ (ap2 : ℤ) (l : In (minus a2_most) (pos a2_most) ap2) where
  rest_in : In (pos 3072) (pos 27648) (pos a1_and_a2_most -ℤ ap2)
  rest_in = in_from a1_and_a2_most (pos 3072) (pos 27648) ap2 l

  -- the saturation never acts
  rest_is : pos a1_and_a2_most -ℤ ap2 ≡ sat (pos a1_and_a2_most -ℤ ap2)
  rest_is = clamp_id (minus 32768) (pos 32767) (pos a1_and_a2_most -ℤ ap2) (within _ _ rest_in tt tt)

  limit_in : In (pos 3072) (pos 27648) (sat (pos a1_and_a2_most -ℤ ap2))
  limit_in = in_clamp (minus 32768) (pos 32767) (pos 3072) (pos 27648) _ tt tt rest_in

  pub limit_le : neg_ℤ (sat (pos a1_and_a2_most -ℤ ap2)) ≤ℤ sat (pos a1_and_a2_most -ℤ ap2)
  limit_le = neg_le (pos 3072) (pos 27648) (sat (pos a1_and_a2_most -ℤ ap2)) limit_in tt

  pub pole_lit : {z : ℤ} → In (neg_ℤ (pos a1_and_a2_most -ℤ ap2)) (pos a1_and_a2_most -ℤ ap2) z → In (minus 27648) (pos 27648) z
  pole_lit {z} i =
      let w = pos a1_and_a2_most -ℤ ap2 in
      record {
        low = ≤_trans (minus 27648) (neg_ℤ w) z (in_neg rest_in).low i.low;
        high = ≤_trans z w (pos 27648) i.high rest_in.high;
      }

-- what UPPOL1 gives
pub pole_in : (a1 ap2 p0 p1 : ℤ) → In (minus a2_most) (pos a2_most) ap2 → In (neg_ℤ (pos a1_and_a2_most -ℤ ap2)) (pos a1_and_a2_most -ℤ ap2) (UPPOL1 a1 ap2 p0 p1)
pole_in a1 ap2 p0 p1 l =
    subst (λ (v : ℤ). In (neg_ℤ v) v (UPPOL1 a1 ap2 p0 p1)) (sym (rest_is ap2 l))
    (clamp_in (neg_ℤ (sat (pos a1_and_a2_most -ℤ ap2))) (sat (pos a1_and_a2_most -ℤ ap2)) _ (limit_le ap2 l))
