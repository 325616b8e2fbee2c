-- What the digits so far say is below a power of ten.
use Rattle.std.proofs.Common.{rules, ◌≡◌, refl, sym, ap, ◌∙◌, List, [], ◌∷◌, map, ℕ, suc, ◌+◌, ◌-◌, ◌*◌, ◌^◌, ◌≤◌, ◌<◌, length, take, get_or, length-take-le, get_or-take, subst, arith, pow-suc}
use Rattle.std.proofs.Math.Nat.{pow-le-pow_right}
use Rattle.std.proofs.lemmas.List.{map-append, get_or_default}
use Rattle.std.proofs.lemmas.Fn.{fold_over, serves_by, slice_gives, fronts}
use Rattle.std.proofs.lemmas.Iterator.{YieldsList-from_slice}
use Rattle.std.proofs.lemmas.Iterator.Consumers.{YieldsList-so_far, YieldsList-turn}
use Rattle.text.specs.Ascii.{ZERO, NINE}
use Rattle.text.specs.Number.{run, value}
use Rattle.text.proofs.Scan.{digit_at, value_last}
use Rattle.text.proofs.number.value_of.Goals as goal

none : 0 ≡ value 0 []
unfolding value
none = refl

below : (l : List ℕ) (a k : ℕ) → a < k → ((i : ℕ) → i < length l → get_or l i 0 ≤ NINE) → value a l < k * 10 ^ length l
unfolding value
below [] a k h d = omega (arith, h)
below (b ∷ l) a k h d =
    let r = below l (a * 10 + (b - ZERO)) (k * 10) (omega (arith, h, d 0 (omega arith))) (λ i p. d (suc i) (omega (arith, p))) in
    rw (pow-suc 10 (length l)) (omega (arith, r))

-- the digit at n, and v the number before it
record Turn (v b : ℕ) : Type 0 where
  low : ZERO ≤ b
  high : b ≤ NINE
  small : v < 10 ^ 9

turn : (l : List ℕ) (n v b : ℕ) → run l ≡ length l → length l ≤ 10 → n < length l → v ≡ value 0 (take n l) → b ≡ get_or l n b → Turn v b
turn l n v b all few h e f =
    let t : length (take n l) ≡ n = length-take-le n l (omega (arith, h)) in
    let d = digit_at l n (omega (arith, all, h)) in
    let w : b ≡ get_or l n 0 = f ∙ get_or_default l n b 0 h in
    let high : (i : ℕ) → i < length (take n l) → get_or (take n l) i 0 ≤ NINE =
    λ i k. subst (λ x. x ≤ NINE) (sym (get_or-take n l i 0 (omega (arith, k, t)))) (digit_at l i (omega (arith, all, h, k, t))).high in
    let v1 : value 0 (take n l) < 1 * 10 ^ n = rw t at (below (take n l) 0 1 (omega arith) high) in
    let m : n ≤ 9 = omega (arith, h, few) in
    let p : 10 ^ n ≤ 10 ^ 9 = pow-le-pow_right {n = 10} (omega arith) m in
    record { low = omega (arith, w, d.low); high = omega (arith, w, d.high); small = omega (arith, e, v1, p) }

pub fold-requires-clause-callable : goal.fold-requires-clause-callable
fold-requires-clause-callable c =
    serves_by _ (λ xs q. q.1 ≡ value 0 (map (λ y. y.now) xs))
    (λ xs q x v j r. let w : v.1 ≡ q.1 * 10 + (x.now - ZERO) = search rules in
    w ∙ ap (λ n. n * 10 + (x.now - ZERO)) j ∙ sym (value_last 0 (map (λ y. y.now) xs) x.now) ∙ ap (value 0) (sym (map-append (λ y. y.now) xs (x ∷ []))))
    _ _ _ _ none
    (λ xs t q x u y e j.
    let road = YieldsList-from_slice c.args.digits.now (cc) in
    let p = YieldsList-turn road xs t y _ u x refl e in
    let d = turn c.args.digits.now (length xs) q.1 x.now c.requires.all c.requires.few p.0 (j ∙ ap (value 0) (YieldsList-so_far road xs t y)) p.1 in
    search rules)

pub returns : goal.returns
returns c =
    subst (λ l. c.fold.result ≡ value 0 l) c.iter.ensures.rest
    (fold_over fronts (λ y. y.now) _ (λ ys a. a ≡ value 0 ys) _
    (λ ys a x b f' j k. let w : b ≡ a * 10 + (x.now - ZERO) = search rules in
    (w ∙ ap (λ n. n * 10 + (x.now - ZERO)) j ∙ sym (value_last 0 ys x.now), refl))
    _ _ _ _ (slice_gives c.iter.result) none c.fold.ensures.ran)
