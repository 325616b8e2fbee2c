-- A loop that writes a list into a lent buffer, item by item. Its invariant speaks of what is still to be written.
use mathlib.Core.List.{List, [], ◌∷◌, map}
use mathlib.Core.Path.{◌≡◌, refl, ◌∙◌}
use Prim.Native.Nat.{ℕ, suc, ◌+◌, ◌<◌, ◌≤◌}
use native.Mathlib.Numerals.{add-one}
use lib.ListN.{length, get_or, drop, set, length-set, drop_of_length-le}
use lib.Seq.{sets, drop-cons}

-- the buffer was `start` and is `out`; of `all` the part `rest` is still to be written, from place k on
pub record Filling {A : Type 0} (all start rest out : List A) (k : ℕ) : Type 0 where
  pub same : sets out k rest ≡ sets start 0 all
  pub long : length out ≡ length start

module _ {A : Type 0} {all start : List A} where
  pub starts : Filling all start all start 0
  starts = record { same = refl; long = refl }

  pub put : {rest out : List A} {k : ℕ} {v : A} → Filling all start (v ∷ rest) out k → Filling all start rest (set out k v) (suc k)
  put {rest} {out} {k} {v} f = record { same = f.same; long = length-set out k v ∙ f.long }

  pub ends : {rest out : List A} {k : ℕ} → Filling all start rest out k → rest ≡ [] → out ≡ sets start 0 all
  ends f e = rw e at f.same

-- f of each item of xs, one store a turn, after i turns
pub record Mapping {A B : Type 0} (f : A → B) (xs : List A) (start out : List B) (i : ℕ) : Type 0 where
  pub filling : Filling (map f xs) start (map f (drop i xs)) out i

module _ {A B : Type 0} {f : A → B} {xs : List A} {start : List B} where
  pub no_turn : Mapping f xs start start 0
  no_turn = record { filling = starts }

  module _ {out : List B} {i : ℕ} where
    pub turn : (d : A) → Mapping f xs start out i → i < length xs → {v : B} → v ≡ f (get_or xs i d) → Mapping f xs start (set out i v) (i + 1)
    turn d m h e = record { filling = rw (e, add-one) (put (rw (drop-cons xs i d h) at m.filling)) }

    pub last_turn : Mapping f xs start out i → length xs ≤ i → out ≡ sets start 0 (map f xs)
    last_turn m h = ends m.filling (rw (drop_of_length-le xs h))
