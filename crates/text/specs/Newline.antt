-- Newlines: a text that is one line, and the first line of a buffer.
use Rattle.std.specs.Prelude.{◌≡◌, cond, List, [], ◌∷◌, ◌++◌, ℕ, eqb}
use Rattle.text.specs.Ascii.{NEWLINE}

-- no byte is a newline
abbrev pub NoNewline : List ℕ → Type 0
NoNewline [] = Unit {0}
NoNewline (b ∷ l) = ¬ (b ≡ NEWLINE) × NoNewline l

-- exactly one newline, the last byte
pub record OneLine (l : List ℕ) : Type 0 where
  pub body : List ℕ
  pub text : l ≡ body ++ NEWLINE ∷ []
  pub clean : NoNewline body

-- a buffer up to its first newline, and with it: how a caller cuts a line out
unfoldable pub first_line : List ℕ → List ℕ
first_line [] = []
first_line (b ∷ l) = b ∷ cond (eqb b NEWLINE) [] (first_line l)
