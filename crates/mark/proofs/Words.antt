-- Numbers of 16 bits among numbers of 64: conversions that fail or not, and lists of such numbers.
use Prim.Native.Nat.{ℕ, ◌+◌, ◌≤◌, ◌<◌}
use native.Mathlib.Omega.{arith}
use mathlib.Core.Path.{◌≡◌, refl, sym, ◌∙◌}
use mathlib.Core.Bool.{Bool, true, false}
use mathlib.Core.List.{List, [], ◌++◌, append-nil, append_assoc}
use lib.IntN.{ℤ, pos, nat_abs}
use lib.ListN.{length, take, drop, get_or, length-append, length-drop, drop_of_length-le}
use lib.Seq.{take_at, drop_at}
use mir.Facts.{to_z-of_z}
use mir.Syntax.{w16, w64}
use mir.Val.{SFits, to_z, of_z}
use borrow.Rule.Slice.PartMut.{put_mid}
use Rattle.std.specs.Prelude.{Some, None, Result, Ok, Err}
use Rattle.std.specs.Int.{FitsUnsignedBits}
use Rattle.std.specs.Result.{OkIff, result_ok}
use Rattle.std.proofs.lemmas.List.{take_more}
use Rattle.fixed.proofs.Wide.{in16_of, fits16_of}
use Rattle.band.specs.Bounds.{all_words}
use Rattle.band.proofs.Boxes.{no_words, more_words, word_at, words_join}

-- ---- a conversion

module _ {T E : Type 0} {P : Type 0} where
  pub failed : (r : Result T E) (v : T) → OkIff r P v → None ≡ result_ok r → ¬ P
  failed (Ok x) v h e = cc
  failed (Err x) v h e = h

  pub converted : (r : Result T E) (v x : T) → OkIff r P v → Some x ≡ result_ok r → P × (x ≡ v)
  converted (Ok y) v x h e = let same : x ≡ y = cc in (h.0, same ∙ h.1)
  converted (Err y) v x h e = cc

-- to an u32, of a number that an i64 holds
pub natural : {E : Type 0} (z : ℤ) (r : Result ℕ E) → SFits w64 z
    → OkIff r (FitsUnsignedBits 32 (to_z w64 (of_z w64 z))) (nat_abs (to_z w64 (of_z w64 z))) → OkIff r (FitsUnsignedBits 32 z) (nat_abs z)
natural z r f h = rw (to_z-of_z f) at h

-- to an i16, likewise
pub narrow : {E : Type 0} (z : ℤ) (r : Result ℤ E) → SFits w64 z
    → OkIff r (SFits w16 (to_z w64 (of_z w64 z))) (to_z w64 (of_z w64 z)) → OkIff r (SFits w16 z) z
narrow z r f h = rw (to_z-of_z f) at h

-- ---- a list

pub no_word : (vs : List ℤ) (i : ℕ) → ¬ SFits w16 (get_or vs i (pos 0)) → all_words vs ≡ false
no_word vs i n = by_test (all_words vs) refl
  where
    by_test : (b : Bool) → all_words vs ≡ b → all_words vs ≡ false
    by_test false e = e
    by_test true e = absurd (n (fits16_of (word_at vs e i)))

pub one_word : (vs : List ℤ) (i : ℕ) → i < length vs → SFits w16 (get_or vs i (pos 0)) → all_words (take i vs) ≡ true
    → all_words (take (i + 1) vs) ≡ true
one_word vs i h f e = rw (take_more vs i (pos 0) h) (words_join (take i vs) _ e (more_words (get_or vs i (pos 0)) [] (in16_of _ f) no_words))

-- ---- parts of a buffer, each written whole

module _ (x low o : List ℤ) (lx : length x ≡ 24) (ll : length low ≡ 23) (lo : length o ≡ 46) where
  two_parts : put_mid 24 23 (x ++ o) low ≡ (x ++ low) ++ drop 23 o
  two_parts = rw (take_at x o 24 lx, drop_at x o 24 lx) (sym (append_assoc x low (drop 23 o)))

  pub two_long : 70 ≤ length (put_mid 24 23 (x ++ o) low)
  two_long = rw two_parts (simp (length-append, length-drop) (omega arith))

  pub three_parts : (high : List ℤ) → put_mid 47 23 (put_mid 24 23 (x ++ o) low) high ≡ x ++ (low ++ high)
  three_parts high =
      let long : length (x ++ low) ≡ 47 = simp length-append (omega arith) in
      let none : drop 23 (drop 23 o) ≡ [] = drop_of_length-le (drop 23 o) {i = 23} (omega (arith, length-drop 23 o)) in
      rw (two_parts, take_at (x ++ low) (drop 23 o) 47 long, drop_at (x ++ low) (drop 23 o) 47 long, none, append-nil high)
      (append_assoc x low high)
