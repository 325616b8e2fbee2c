use Rattle.std.proofs.Common.{rules, arith, refl, sym, ap, add-one, [], ◌∷◌, ◌++◌, ◌≡◌, ◌∙◌, ◌+◌, ◌*◌, ◌<◌, length, take, get_or, List, ℕ, ℤ, pos, ◌+ℤ◌}
use Rattle.std.proofs.lemmas.Int.{ints}
use Rattle.std.proofs.lemmas.List.{length_push}
use Rattle.std.proofs.lemmas.Slice.Zip.{zip_turn}
use mathlib.Core.List.{zip_with}
use mathlib.Core.Path.{subst}
use lib.IntN.{zero-*ℤ, *ℤ-zero}
use lib.Signed.{shr_z}
use mir.Syntax.{w16, w32}
use mir.Val.{SFits, to_z}
use Rattle.fixed.specs.Number.{minus, In, Is, clamp_z, sat, tapped}
use Rattle.fixed.proofs.Wide.{E, add, call, rd, read, same, var}
use Rattle.fixed.proofs.Half.{h2, half, rh}
use Rattle.band.specs.Block4.{total}
use Rattle.band.proofs.Totals.{total_next}
use Rattle.band.proofs.block4.filtez.Goals.{After-tap-sum}
use Rattle.band.proofs.block4.filtez.Goals as goal

-- the sum so far, and one product more
more : {s r p q : ℤ} (i : ℕ) → i < 6 → In (minus (32768 * i)) (pos (32768 * i)) s → Is (minus 32768) (pos 32768) p r → p ≡ q
    → E (minus 196608) (pos 196608) (s +ℤ rd r) (s +ℤ q)
more {s} {r} i h n a g =
    let five : In (minus 163840) (pos 163840) s = record { low = omega (arith, ints, n.low); high = omega (arith, ints, n.high) } in
    let z = var five tt in
    same (add z (call a g tt) tt) (λ t. sym (read z) t +ℤ rd r)

wider : {s q : ℤ} (i : ℕ) → In (minus (32768 * i)) (pos (32768 * i)) s → In (minus 32768) (pos 32768) q
    → In (minus (32768 * (i + 1))) (pos (32768 * (i + 1))) (s +ℤ q)
wider i n m = record { low = omega (arith, ints, n.low, m.low); high = omega (arith, ints, n.high, m.high) }

none_left : (x : ℤ) → tapped (pos 0) x ≡ pos 0
none_left x = ap (λ (z : ℤ). shr_z z 32768) (zero-*ℤ (sat (x +ℤ x)))

none_right : (c : ℤ) → tapped c (pos 0) ≡ pos 0
unfolding clamp_z
none_right c = ap (λ (z : ℤ). shr_z z 32768) (*ℤ-zero c)

-- the pair that is taken, and how many went before it
turn : (c : After-tap-sum)
    → (length c.loop-bi.yielded < 6) × (c.in-Some.bi.now ≡ get_or c.args.b (length c.loop-bi.yielded) (pos 0))
    × (c.in-Some.di.now ≡ get_or c.args.d (length c.loop-bi.yielded) (pos 0))
turn c =
    let t = zip_turn c.args.b c.args.d c.loop-bi.yielded _ c.loop-bi.bi-iterator c.next.new.self _ (cc) (cc) c.loop-bi.yielded_by _ c.in-Some.is c.next.ensures.steps in
    let six : length c.args.b ≡ 6 = search rules in
    (rw (sym six) t.0, t.2 (pos 0), t.3 (pos 0))

pub loop-bi-init : goal.loop-bi-init
unfolding zip_with
loop-bi-init c = record { in_range = record { low = record { le = tt }; high = record { le = tt } }; so_far = refl }

-- the product, and the sum with it
product : (c : After-tap-sum) → tapped (rh c.in-Some.bi.now) (rh c.in-Some.di.now) ≡ tapped (get_or c.args.b (length c.loop-bi.yielded) (pos 0)) (get_or c.args.d (length c.loop-bi.yielded) (pos 0))
product c =
    let fits_b : SFits w16 c.in-Some.bi.now = search rules in
    let fits_d : SFits w16 c.in-Some.di.now = search rules in
    let t = turn c in
    h2 (half fits_b) (half fits_d) tapped ∙ (λ k. tapped (t.1 k) (t.2 k))

sum : (c : After-tap-sum) → E (minus 196608) (pos 196608) (to_z w32 c.loop-bi.sum-bits +ℤ rd c.tap-sum.result)
    (to_z w32 c.loop-bi.sum-bits +ℤ tapped (get_or c.args.b (length c.loop-bi.yielded) (pos 0)) (get_or c.args.d (length c.loop-bi.yielded) (pos 0)))
sum c = more (length c.loop-bi.yielded) (turn c).0 c.loop-bi.invariant.in_range c.tap-sum.ensures (product c)

pub overflow_add-sum : goal.overflow_add-sum
overflow_add-sum c = (sum c).fits

pub loop-bi-preserved : goal.loop-bi-preserved
loop-bi-preserved c =
    let b : List ℤ = c.args.b in
    let d : List ℤ = c.args.d in
    let i = length c.loop-bi.yielded in
    let before = c.loop-bi.invariant in
    let is = read (sum c) in
    let next : i + 1 ≡ length (c.loop-bi.yielded ++ ((c.in-Some.bi, c.in-Some.di) ∷ [])) = sym (length_push c.loop-bi.yielded _) in
    record {
      in_range = rw (sym next) (subst (In _ _) (sym is) (wider i before.in_range (call c.tap-sum.ensures (product c) tt).range));
      so_far = is ∙ ap (λ (s : ℤ). s +ℤ tapped (get_or b i (pos 0)) (get_or d i (pos 0))) before.so_far
          ∙ total_next tapped none_left none_right b d i ∙ ap (λ (n : ℕ). total (zip_with tapped (take n b) d)) (sym (add-one i) ∙ next);
    }
