-- What is stored, and the numbers still to be read behind it, are all that is to be stored.
use Rattle.std.proofs.Common.{◌≡◌, Option, List, ℕ, ◌-◌, ◌≤◌, ℤ, length, drop}
use Rattle.std.proofs.lemmas.List.Edits.{sets}
use Rattle.text.specs.Fields.{further, read_fields}
use Rattle.text.proofs.fields.read_fields.Given as goal

-- x and q are the answer and the buffer that the contract asks for, of the text t
abbrev pub Answers : List ℕ → List ℤ → Option ℕ → List ℤ → Type 0
Answers t o x q = (x ≡ (read_fields (length o) t).ending) × (q ≡ sets o 0 (read_fields (length o) t).numbers)

-- o is the buffer at the start and q now; the i-th field begins after count bytes
pub record Reading (t : List ℕ) (o q : List ℤ) (count i : ℕ) : Type 0 where
  pub inside : count ≤ length t
  pub same : length q ≡ length o
  pub answers : let rest = read_fields (length o - i) (drop count t) in Answers t o (further count rest.ending) (sets q i rest.numbers)

abbrev pub invariant-loop-v : goal.invariant-loop-v
invariant-loop-v l = Reading l.text l.fn.out l.v-items l.count l.v-index
