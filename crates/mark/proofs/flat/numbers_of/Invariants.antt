-- Rate, position and the words below i stand in front.
use Rattle.std.proofs.Common.{◌≡◌, ◌∷◌, ◌+◌, pos, length, take}
use Rattle.mark.proofs.flat.numbers_of.Given as goal

abbrev pub invariant-loop-i : goal.invariant-loop-i
invariant-loop-i l = record {
  long : length l.numbers ≡ 72;
  same : take (2 + l.i) l.numbers ≡ pos l.rate ∷ pos l.position ∷ take l.i l.word-items;
}
