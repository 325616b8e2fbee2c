use Rattle.std.proofs.Common.{◌≡◌, true, length, take}
use Rattle.band.specs.Bounds.{all_words}
use Rattle.mark.proofs.flat.words_of.Given as goal

abbrev pub invariant-loop-i : goal.invariant-loop-i
invariant-loop-i l = record {
  long : length l.words ≡ 70;
  same : take l.i l.words ≡ take l.i l.numbers;
  words : all_words (take l.i l.numbers) ≡ true;
}
