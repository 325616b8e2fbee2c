-- What is stored, and the fields still to come behind it, are the whole text.
use Rattle.std.proofs.Common.{◌≡◌, List, ℕ, ◌+◌, ◌≤◌, ℤ, length, drop}
use Rattle.std.proofs.lemmas.List.Edits.{sets}
use Rattle.text.specs.Fields.{fields_text}
use Rattle.text.proofs.fields.write_fields.Given as goal

-- o is the buffer at the start and q now; the field of the i-th number goes to p
pub record Writing (o : List ℕ) (at : ℕ) (vs : List ℤ) (q : List ℕ) (p i : ℕ) : Type 0 where
  pub room : at + length (fields_text vs) ≤ length o
  pub same : length q ≡ length o
  pub place : p + length (fields_text (drop i vs)) ≡ at + length (fields_text vs)
  pub whole : sets q p (fields_text (drop i vs)) ≡ sets o at (fields_text vs)

abbrev pub invariant-loop-v : goal.invariant-loop-v
invariant-loop-v l = Writing l.fn.out l.at l.vs l.out l.p l.v-index
