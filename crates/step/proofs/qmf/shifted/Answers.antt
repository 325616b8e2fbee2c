use Rattle.std.proofs.Common.{rules, arith, sym, ◌∙◌, ◌≡◌, ◌≤◌, length, List, [], ◌∷◌, ◌++◌, ℤ, take, drop, length-drop}
use Rattle.std.proofs.Math.ListN.{set}
use Rattle.std.proofs.lemmas.List.{length-take, length-take-le, take_all}
use Rattle.std.proofs.lemmas.List.Edits.{sets-eq, take-paste, length-paste}
use lib.ListN.{drop_of_length-le}
use lib.Seq.{paste}
use mathlib.Core.List.{append-nil}
use mir.Facts.{to_z-of_z}
use Rattle.step.specs.Qmf.{taking}
use Rattle.step.proofs.qmf.shifted.Goals as goal

moved : (x : List ℤ) (a b : ℤ) → length x ≡ 24 → set (set (paste x 0 (drop 2 x) 22) 22 a) 23 b ≡ taking x a b
moved x a b n =
    let y = paste x 0 (drop 2 x) 22 in
    let rest : 22 ≤ length (drop 2 x) = simp length-drop (omega arith) in
    let long : length y ≡ length x = length-paste x 0 (drop 2 x) 22 (omega arith) rest in
    let front : take 22 y ≡ take 22 (drop 2 x) = take-paste x 0 (drop 2 x) 22 (omega arith) rest in
    let whole : take 22 (drop 2 x) ≡ drop 2 x = take_all 22 (drop 2 x) (simp length-drop (omega arith)) in
    let none : drop 24 y ≡ [] = drop_of_length-le y {i = 24} (omega arith) in
    sets-eq (a ∷ b ∷ []) y 22 (omega arith) ∙ (λ t. ((front ∙ whole) t ++ (a ∷ b ∷ [])) ++ none t) ∙ append-nil (taking x a b)

pub slice_bounds-copy_from_slice-end : goal.slice_bounds-copy_from_slice-end
slice_bounds-copy_from_slice-end c =
    let x : List ℤ = c.args.x in
    let long : length x ≡ 24 = search rules in
    sym (length-take-le 22 x (omega arith))

pub copy_from_slice-requires : goal.copy_from_slice-requires
copy_from_slice-requires c =
    let x : List ℤ = c.args.x in
    let long : length x ≡ 24 = search rules in
    simp (length-take, length-drop) (omega arith)

pub returns : goal.returns
returns c =
    let x : List ℤ = c.args.x in
    let long : length x ≡ 24 = search rules in
    let y = c.copy_from_slice.ensures.after in
    (λ t. set (set (y t ++ drop 22 x) 22 (to_z-of_z c.ranges.a t)) 23 (to_z-of_z c.ranges.b t)) ∙ moved x c.args.a c.args.b long
