-- Loops over samples as bytes, and the room that they have.
use mathlib.Core.Bool.{Bool, true, false, cond}
use mathlib.Core.List.{List, [], ◌∷◌, ◌++◌, map}
use mathlib.Core.Path.{◌≡◌, refl, sym, ap, ◌∙◌}
use Prim.Native.Nat.{ℕ, suc, ◌+◌, ◌*◌, ◌/◌, ◌%◌, ◌<◌, ◌≤◌}
use native.Mathlib.Numerals.{add-one}
use native.Mathlib.Omega.{arith}
use lib.Dec.{eqb, ltb}
use lib.IntN.{ℤ}
use lib.ListN.{length, get_or, drop, set, drop_of_length-le, length-append}
use lib.Seq.{sets, drop-cons}
use borrow.Author.Tests.{ltb-false}
use Rattle.std.specs.Prelude.{Result, Ok}
use Rattle.answers.specs.declared.Refusal.{Refusal}
use Rattle.answers.specs.Numbers.{done, odd_count, no_room}
use Rattle.answers.specs.Outcomes.{outcome}
use Rattle.answers.proofs.Answered.{ok_is}
use Rattle.answers.proofs.Filling.{Filling, starts, put, ends}
use Rattle.samples.specs.Bytes.{sample_of, bits_of, samples, bytes}
use Rattle.samples.specs.Lent.{encoding_number}

pub length-samples : (l : List ℕ) → length (samples l) ≡ length l / 2
length-samples [] = refl
length-samples (lo ∷ []) = refl
length-samples (lo ∷ (hi ∷ bs)) =
    let e = length-samples bs in
    omega arith

-- the bytes of f of each item of xs, two stores a turn, after i turns
pub record Pairing {A : Type 0} (f : A → ℤ) (xs : List A) (start out : List ℕ) (i : ℕ) : Type 0 where
  pub filling : Filling (bytes (map f xs)) start (bytes (map f (drop i xs))) out (2 * i)

module _ {A : Type 0} {f : A → ℤ} {xs : List A} {start : List ℕ} where
  pub no_turn : Pairing f xs start start 0
  no_turn = record { filling = starts }

  module _ {out : List ℕ} {i : ℕ} where
    pub turn : (d : A) → Pairing f xs start out i → i < length xs → {b : ℕ} → b ≡ bits_of (f (get_or xs i d))
        → Pairing f xs start (set (set out (2 * i) (b % 256)) (2 * i + 1) (b / 256)) (i + 1)
    turn d p h e =
        let two : 2 * suc i ≡ suc (suc (2 * i)) = omega arith in
        record { filling = rw (e, add-one i, add-one (2 * i), two) (put (put (rw (drop-cons xs i d h) at p.filling))) }

    pub last_turn : Pairing f xs start out i → length xs ≤ i → out ≡ sets start 0 (bytes (map f xs))
    last_turn p h = ends p.filling (rw (drop_of_length-le xs h))

pub samples_none : (l : List ℕ) → length l < 2 → samples l ≡ []
samples_none [] few = refl
samples_none (lo ∷ []) few = refl
samples_none (lo ∷ (hi ∷ bs)) few = absurd (omega arith)

-- f of each sample of the input, a pair of bytes and one store a turn: `rest` is left of the input after i turns
pub record Unpairing {A : Type 0} (f : ℤ → A) (input : List ℕ) (start : List A) (rest : List ℕ) (out : List A) (i : ℕ) : Type 0 where
  pub place : 2 * i + length rest ≡ length input
  pub filling : Filling (map f (samples input)) start (map f (samples rest)) out i

module _ {A : Type 0} {f : ℤ → A} {input : List ℕ} {start : List A} where
  module _ {rest : List ℕ} {out : List A} {i : ℕ} where
    pub pair_turn : Unpairing f input start rest out i → (pair later : List ℕ) → rest ≡ pair ++ later → length pair ≡ 2 → {v : A}
        → v ≡ f (sample_of (get_or pair 0 0) (get_or pair 1 0)) → Unpairing f input start later (set out i v) (i + 1)
    pair_turn u [] later cut two e = absurd (omega arith)
    pair_turn u (lo ∷ []) later cut two e = absurd (omega arith)
    pair_turn u (lo ∷ (hi ∷ [])) later cut two e =
        let before = rw cut at u.place in
        record { place = omega (arith, before); filling = rw (e, add-one i) (put (rw cut at u.filling)) }
    pair_turn u (lo ∷ (hi ∷ (x ∷ pair))) later cut two e = absurd (omega arith)

    pub pair_left : Unpairing f input start rest out i → (pair later : List ℕ) → rest ≡ pair ++ later → length pair ≡ 2 → i < length input / 2
    pair_left u pair later cut two = omega (arith, u.place, ap length cut ∙ length-append pair later)

    pub last_pair : Unpairing f input start rest out i → length rest < 2 → out ≡ sets start 0 (map f (samples input))
    last_pair u few = ends u.filling (rw (samples_none rest few))

-- n bytes of samples that a call does not refuse have a byte of room for each sample
pub record Accepted (n room count : ℕ) : Type 0 where
  pub number : encoding_number n room ≡ done
  pub all : count ≡ n / 2
  pub fits : n / 2 ≤ room

pub accepts : (n room : ℕ) {count : ℕ} {came : Result ℕ Refusal} → came ≡ outcome (encoding_number n room) (n / 2) → came ≡ Ok count
    → Accepted n room count
accepts n room e ok =
    let came = ok_is (encoding_number n room) (n / 2) (sym e ∙ ok) in
    record { number = came.0; all = came.1; fits = go (eqb (n % 2) 0) (ltb room (n / 2)) refl came.0 }
  where
    go : (even short : Bool) → ltb room (n / 2) ≡ short → cond even (cond short no_room done) odd_count ≡ done → n / 2 ≤ room
    go true false t z = ltb-false room (n / 2) t
    go true true t z = absurd (omega arith)
    go false short t z = absurd (omega arith)
