-- What a call on lent buffers answers, and what it leaves in the output (docs/RULES.md, "Answers" and "Room").
use Rattle.std.specs.Prelude.{cond, List, map, ℕ, eqb, ltb, length, Result}
use Rattle.std.proofs.lemmas.List.Edits.{sets}
use Rattle.answers.specs.Numbers.{done, no_room}
use Rattle.answers.specs.declared.Refusal.{Refusal}
use Rattle.answers.specs.Outcomes.{outcome}

-- done: the items stand first and the rest is kept; refused: all is as it was
abbrev pub leaves : {A : Type 0} → ℕ → List A → List A → List A
leaves number items out = cond (eqb number done) (sets out 0 items) out

-- the number of a call that needs room for n items and refuses for nothing else
abbrev pub room_number : ℕ → ℕ → ℕ
room_number n room = cond (ltb room n) no_room done

-- such a call that writes f of each item of its input
module _ {A B : Type 0} where
  abbrev pub map_outcome : List A → List B → Result ℕ Refusal
  map_outcome input out = outcome (room_number (length input) (length out)) (length input)

  abbrev pub map_output : (A → B) → List A → List B → List B
  map_output f input out = leaves (room_number (length input) (length out)) (map f input) out
