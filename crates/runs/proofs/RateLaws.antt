-- Laws of what the rate decides: of nothing, of one byte, and of a sum.
use Prim.Native.Nat.{ℕ, ◌+◌, ◌*◌, ◌/◌, ◌%◌, ◌<◌}
use native.Mathlib.Omega.{arith}
use mathlib.Core.Bool.{Bool, true, false, cond, not, ◌&&◌}
use mathlib.Core.Path.{◌≡◌, refl}
use lib.Dec.{eqb}
use borrow.Author.Tests.{eqb-true, eq-eqb, not-false}
use Rattle.runs.specs.Rates.{resamples, encode_room, decode_room, odd_at}

-- how many samples go with a byte
abbrev pub samples_a_byte : ℕ → ℕ
samples_a_byte rate = cond (resamples rate) 1 2

some_by : (t : Bool) → 0 < cond t 1 2
some_by true = omega arith
some_by false = omega arith

pub some_samples : (rate : ℕ) → 0 < samples_a_byte rate
some_samples rate = some_by (resamples rate)

-- ---- nothing

pub nothing : {A : Type 0} (t : Bool) (a : A) → cond t a a ≡ a
nothing true a = refl
nothing false a = refl

pub no_bytes : (rate : ℕ) → encode_room rate 0 ≡ 0
unfolding encode_room
no_bytes rate = nothing (resamples rate) 0

pub no_samples : (rate : ℕ) → decode_room rate 0 ≡ 0
unfolding decode_room
no_samples rate = nothing (resamples rate) 0

not_odd_by : (t : Bool) → (not t && false) ≡ false
not_odd_by true = refl
not_odd_by false = refl

pub not_odd : (rate : ℕ) → odd_at rate 0 ≡ false
unfolding odd_at
not_odd rate = not_odd_by (resamples rate)

-- ---- a sum

encode_room_cut_by : (t : Bool) (m n : ℕ) → (not t && not (eqb (m % 2) 0)) ≡ false
    → cond t (m + n) ((m + n) / 2) ≡ cond t m (m / 2) + cond t n (n / 2)
encode_room_cut_by true m n even = refl
encode_room_cut_by false m n even = let e = eqb-true (m % 2) 0 (not-false _ even) in omega arith

pub encode_room_cut : (rate m n : ℕ) → odd_at rate m ≡ false → encode_room rate (m + n) ≡ encode_room rate m + encode_room rate n
unfolding encode_room odd_at
encode_room_cut rate m n even = encode_room_cut_by (resamples rate) m n even

decode_room_cut_by : (t : Bool) (m n : ℕ) → cond t (m + n) (2 * (m + n)) ≡ cond t m (2 * m) + cond t n (2 * n)
decode_room_cut_by true m n = refl
decode_room_cut_by false m n = omega arith

pub decode_room_cut : (rate m n : ℕ) → decode_room rate (m + n) ≡ decode_room rate m + decode_room rate n
unfolding decode_room
decode_room_cut rate m n = decode_room_cut_by (resamples rate) m n

even_rest_by : (t : Bool) (m n : ℕ) → (not t && not (eqb (m % 2) 0)) ≡ false → (not t && not (eqb ((m + n) % 2) 0)) ≡ false
    → (not t && not (eqb (n % 2) 0)) ≡ false
even_rest_by true m n p q = refl
even_rest_by false m n p q =
    let a = eqb-true (m % 2) 0 (not-false _ p) in
    let b = eqb-true ((m + n) % 2) 0 (not-false _ q) in
    rw (eq-eqb (n % 2) 0 (omega arith))

pub even_rest : (rate m n : ℕ) → odd_at rate m ≡ false → odd_at rate (m + n) ≡ false → odd_at rate n ≡ false
unfolding odd_at
even_rest rate = even_rest_by (resamples rate)
