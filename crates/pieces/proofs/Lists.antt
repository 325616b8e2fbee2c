-- Samples and bytes in two parts, and stores into a part of a list.
use mathlib.Core.Bool.{true}
use mathlib.Core.List.{List, [], ◌∷◌, ◌++◌, append-nil}
use mathlib.Core.Path.{◌≡◌, refl, sym, ap, ◌∙◌}
use Prim.Native.Nat.{ℕ, zero, suc, ◌+◌, ◌*◌, ◌-◌, ◌%◌, ◌≤◌, ◌<◌}
use native.Mathlib.Omega.{arith}
use lib.IntN.{ℤ}
use lib.ListN.{length, get_or, take, drop, set, drop_of_length-le, length-drop}
use lib.Seq.{sets, sets-eq, take_all}
use borrow.Rule.Slice.PartMut.{mid_of, put_mid}
use Rattle.samples.specs.Bytes.{sample_of, samples, bytes}
use Rattle.samples.proofs.Words.{sample_fits}
use Rattle.fixed.proofs.Wide.{in16_of}
use Rattle.band.specs.Bounds.{all_words}
use Rattle.band.proofs.Boxes.{no_words, more_words}

-- ---- stores

-- they fill all of a list
pub sets_all : {A : Type 0} (l vs : List A) → length vs ≡ length l → sets l 0 vs ≡ vs
sets_all l vs e =
    let whole : 0 + length vs ≡ length l = omega arith in
    rw (sets-eq vs l 0 (omega arith), whole, drop_of_length-le l {i = length l} (omega arith)) (append-nil vs)

sets_cons : {A : Type 0} (x : A) (l vs : List A) (o : ℕ) → sets (x ∷ l) (suc o) vs ≡ x ∷ sets l o vs
sets_cons x l [] o = refl
sets_cons x l (v ∷ vs) o = sets_cons x (set l o v) vs (suc o)

sets_drop : {A : Type 0} (o : ℕ) (l vs : List A) → o ≤ length l → take o l ++ sets (drop o l) 0 vs ≡ sets l o vs
sets_drop zero l vs h = refl
sets_drop (suc o) [] vs h = absurd (omega arith)
sets_drop {A} (suc o) (x ∷ l) vs h = ap (λ (r : List A). x ∷ r) (sets_drop o l vs (omega arith)) ∙ sym (sets_cons x l vs o)

-- the part of a list from place o on, and the list with another such part
abbrev pub part_of : {A : Type 0} → ℕ → List A → List A
part_of o l = mid_of o (length l - o) l

abbrev pub put_part : {A : Type 0} → ℕ → List A → List A → List A
put_part o l part = put_mid o (length l - o) l part

module _ {A : Type 0} (o : ℕ) (l : List A) where
  part_all : part_of o l ≡ drop o l
  part_all = take_all (length l - o) (drop o l) (simp length-drop (omega arith))

  pub part_length : length (part_of o l) ≡ length l - o
  part_length = ap length part_all ∙ length-drop o l

  pub sets_part : (vs : List A) → o ≤ length l → put_part o l (sets (part_of o l) 0 vs) ≡ sets l o vs
  sets_part vs h =
      let none = drop_of_length-le (drop o l) {i = length l - o} (simp length-drop (omega arith)) in
      rw (part_all, none, append-nil) (sets_drop o l vs h)

-- ---- samples and bytes

pub samples_cut : (a b : List ℕ) → length a % 2 ≡ 0 → samples (a ++ b) ≡ samples a ++ samples b
samples_cut [] b even = refl
samples_cut (lo ∷ []) b even = absurd (omega arith)
samples_cut (lo ∷ (hi ∷ a)) b even = ap (λ (l : List ℤ). sample_of lo hi ∷ l) (samples_cut a b (omega arith))

pub samples_none : (l : List ℕ) → length l < 2 → samples l ≡ []
samples_none [] few = refl
samples_none (lo ∷ []) few = refl
samples_none (lo ∷ hi ∷ l) few = absurd (omega arith)

pub bytes_cut : (a b : List ℤ) → bytes (a ++ b) ≡ bytes a ++ bytes b
bytes_cut [] b = refl
bytes_cut (z ∷ a) b = rw (bytes_cut a b)

pub length-bytes : (zs : List ℤ) → length (bytes zs) ≡ 2 * length zs
length-bytes [] = refl
length-bytes (z ∷ zs) = let e = length-bytes zs in omega arith

pub samples_words : (l : List ℕ) → ((k : ℕ) → get_or l k 0 < 256) → all_words (samples l) ≡ true
samples_words [] h = no_words
samples_words (lo ∷ []) h = no_words
samples_words (lo ∷ (hi ∷ bs)) h =
    let word = in16_of (sample_of lo hi) (sample_fits lo hi (h 0) (h 1)) in
    more_words (sample_of lo hi) (samples bs) word (samples_words bs (λ k. h (suc (suc k))))
