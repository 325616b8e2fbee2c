-- A contract determines a call: two results that it allows are equal, and so is what they leave in the output.
use mathlib.Core.List.{List}
use mathlib.Core.Path.{◌≡◌, sym, ◌∙◌}
use Prim.Native.Nat.{ℕ}
use contract.Lifetimes.{Lfts}
use denote.Triple.Clauses.{AtExit}
use borrow.Fn.Kinds.{ParamKind, ResultKind, Out, Dens, res_t, ended_of}

-- `Post` is the contract's own clauses; `left` is what is looked at when the call has ended: its output
abbrev pub Determined : (n : ℕ) (ps : List (ParamKind n)) (r : ResultKind n) → Out n ps r → {B : Type 0}
    → ((κs : Lfts n) → AtExit (ended_of n ps r) κs → B) → Type 0
Determined n ps r Post left =
    (κs : Lfts n) (a : Dens κs ps) (z z' : (res_t r κs).Denot) (e e' : AtExit (ended_of n ps r) κs)
    → Post κs a z e → Post κs a z' e' → (z ≡ z') × (left κs e ≡ left κs e')

pub one : {A : Type 0} {v a b : A} → a ≡ v → b ≡ v → a ≡ b
one p q = p ∙ sym q
