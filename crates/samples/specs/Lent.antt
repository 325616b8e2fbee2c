-- What a call on samples as bytes answers, and what it leaves in a lent buffer (docs/RULES.md, "Samples as bytes" and "Room").
use Rattle.std.specs.Prelude.{cond, List, map, ℕ, ◌*◌, ◌/◌, ◌%◌, eqb, ℤ, length, Result}
use Rattle.answers.specs.declared.Refusal.{Refusal}
use Rattle.answers.specs.Numbers.{odd_count}
use Rattle.answers.specs.Outcomes.{outcome}
use Rattle.answers.specs.Lent.{leaves, room_number}
use Rattle.samples.specs.Bytes.{samples, bytes}

-- the number of a call that takes n bytes of samples and writes a byte for each sample: 3 for an odd count, then 4 for too little room
abbrev pub encoding_number : ℕ → ℕ → ℕ
encoding_number n room = cond (eqb (n % 2) 0) (room_number (n / 2) room) odd_count

-- f of each sample of the input
abbrev pub from_bytes_number : List ℕ → List ℕ → ℕ
from_bytes_number input out = encoding_number (length input) (length out)

abbrev pub from_bytes_outcome : List ℕ → List ℕ → Result ℕ Refusal
from_bytes_outcome input out = outcome (from_bytes_number input out) (length input / 2)

abbrev pub from_bytes_output : (ℤ → ℕ) → List ℕ → List ℕ → List ℕ
from_bytes_output f input out = leaves (from_bytes_number input out) (map f (samples input)) out

-- f of each byte of the input, as two bytes
abbrev pub to_bytes_number : List ℕ → List ℕ → ℕ
to_bytes_number input out = room_number (2 * length input) (length out)

abbrev pub to_bytes_outcome : List ℕ → List ℕ → Result ℕ Refusal
to_bytes_outcome input out = outcome (to_bytes_number input out) (2 * length input)

abbrev pub to_bytes_output : (ℕ → ℤ) → List ℕ → List ℕ → List ℕ
to_bytes_output f input out = leaves (to_bytes_number input out) (bytes (map f input)) out
