-- The C calls of one kind, encoding or decoding, as far as their lines need them: bytes in, bytes out. All are definitions.
use Rattle.std.specs.Prelude.{ℕ, Bool, List}
use Rattle.life.specs.Kind.{Kind}

pub record CCalls (k : Kind) : Type 0 where
  -- what input bytes stand for, and what is given out, as bytes
  pub input : List ℕ → k.Input
  pub as_bytes : List k.Out → List ℕ
  -- by the rate and the count of input bytes: whether it is refused as odd, and how many bytes a done call gives out
  pub odd : ℕ → ℕ → Bool
  pub count : ℕ → ℕ → ℕ
  -- by the rate and the count of a history's items: the position at its end
  pub position : ℕ → ℕ → ℕ
  -- the numbers that come of the input, the rooms and the position, and not of the line
  pub coding_answers : List ℕ
  -- beginning, of a rate, a start and the lent buffer: the number, and what is left in the buffer
  pub begin_number : ℕ → ℕ → List ℕ → ℕ
  pub begin_mark : ℕ → ℕ → List ℕ → List ℕ
  -- a coding call, of a line, the input, the output and the buffer for the new mark: the number, and what is left in both buffers
  pub number : List ℕ → List ℕ → List ℕ → List ℕ → ℕ
  pub out : List ℕ → List ℕ → List ℕ → List ℕ → List ℕ
  pub mark : List ℕ → List ℕ → List ℕ → List ℕ → List ℕ
