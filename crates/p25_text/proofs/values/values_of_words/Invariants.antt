use Rattle.std.proofs.Common.{◌≡◌, length, map}
use Rattle.p25_text.proofs.ReadLaws.{SoFar}
use Rattle.p25_text.proofs.values.values_of_words.Given as goal

abbrev pub invariant-loop-i : goal.invariant-loop-i
invariant-loop-i l = record {
  so_far : SoFar l.keys l.words l.i (map (λ value. value.now) l.values.items);
  count : length l.values.items ≡ l.i;
}
