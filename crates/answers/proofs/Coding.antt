-- A coder that takes its input in pieces and writes what each gives behind what the one before it gave.
use mathlib.Core.List.{List, [], ◌∷◌, ◌++◌}
use mathlib.Core.Path.{◌≡◌, refl, sym, ap, ◌∙◌}
use Prim.Native.Nat.{ℕ, suc, ◌+◌, ◌≤◌}
use native.Mathlib.Omega.{arith}
use lib.ListN.{length, set, length-append}
use lib.Seq.{sets, length-sets}
use Rattle.answers.proofs.Filling.{Filling, starts, ends}

sets_cut : {A : Type 0} (a b : List A) (out : List A) (i : ℕ) → sets out i (a ++ b) ≡ sets (sets out i a) (i + length a) b
sets_cut [] b out i = let here : i + 0 ≡ i = omega arith in rw here
sets_cut (x ∷ a) b out i = let next : i + suc (length a) ≡ suc i + length a = omega arith in rw next (sets_cut a b (set out i x) (suc i))

puts : {A : Type 0} {all start rest out : List A} {k : ℕ} (vs : List A) → Filling all start (vs ++ rest) out k
    → Filling all start rest (sets out k vs) (k + length vs)
puts {rest = rest} {out} {k} vs w = record { same = sym (sets_cut vs rest out k) ∙ w.same; long = length-sets out k vs ∙ w.long }

-- `after` and `output` of a state and a list: the state after all of it, and what it gives
module _ {S A B : Type 0} (after : S → List A → S) (output : S → List A → List B) where
  -- from the state s and the place o on, the rest does what the whole does from s₀ and place 0 on
  pub record Coding (s₀ : S) (all : List A) (start : List B) (s : S) (rest : List A) (out : List B) (o : ℕ) : Type 0 where
    pub state : after s rest ≡ after s₀ all
    pub room : o + length (output s rest) ≤ length out
    pub written : Filling (output s₀ all) start (output s rest) out o

  pub coding_none : {s₀ : S} {all : List A} {start : List B} → length (output s₀ all) ≤ length start → Coding s₀ all start s₀ all start 0
  coding_none h = record { state = refl; room = omega arith; written = starts }

  module _ {s₀ : S} {all : List A} {start : List B} {s : S} {rest : List A} {out : List B} {o : ℕ} (w : Coding s₀ all start s rest out o) where
    -- a turn: a piece is taken, and the rest is what is left behind it
    module _ (piece later : List A) (cut : rest ≡ piece ++ later) (states : after s (piece ++ later) ≡ after (after s piece) later)
        (outputs : output s (piece ++ later) ≡ output s piece ++ output (after s piece) later) where
      whole : output s rest ≡ output s piece ++ output (after s piece) later
      whole = ap (output s) cut ∙ outputs

      rooms : o + length (output s piece) + length (output (after s piece) later) ≤ length out
      rooms = omega (arith, w.room, ap length whole ∙ length-append (output s piece) (output (after s piece) later))

      pub coding_room : o + length (output s piece) ≤ length out
      coding_room = omega (arith, rooms)

      pub coding_more : Coding s₀ all start (after s piece) later (sets out o (output s piece)) (o + length (output s piece))
      coding_more = record {
        state = sym states ∙ (ap (after s) (sym cut) ∙ w.state);
        room = rw (length-sets out o (output s piece)) rooms;
        written = puts (output s piece) (rw whole at w.written);
      }

    pub coding_all : rest ≡ [] → after s [] ≡ s → output s [] ≡ [] → (s ≡ after s₀ all) × (out ≡ sets start 0 (output s₀ all))
    coding_all none stays nothing =
        (sym stays ∙ (ap (after s) (sym none) ∙ w.state), ends w.written (ap (output s) none ∙ nothing))
