-- What the rate decides, for n input items: how many items are written (docs/RULES.md, "Room", "Sessions").
use Rattle.std.specs.Prelude.{ℕ, ◌*◌, ◌/◌, ◌%◌, Bool, cond, not, ◌&&◌, eqb}

-- at rate 8000 one sample goes with a byte, at every other rate two
abbrev pub resamples : ℕ → Bool
resamples rate = eqb rate 8000

unfoldable pub encode_room : ℕ → ℕ → ℕ
encode_room rate n = cond (resamples rate) n (n / 2)

unfoldable pub decode_room : ℕ → ℕ → ℕ
decode_room rate n = cond (resamples rate) n (2 * n)

-- an odd count of samples, where two go into a byte
unfoldable pub odd_at : ℕ → ℕ → Bool
odd_at rate n = not (resamples rate) && not (eqb (n % 2) 0)
