use Rattle.std.proofs.Common.{◌≡◌, ◌*◌, length, drop}
use Rattle.p25_decide.specs.DecidedUnits.{with_words}
use Rattle.p25_decide.proofs.words.put_words.Given as goal

abbrev pub invariant-loop-i : goal.invariant-loop-i
invariant-loop-i l = record {
  list : with_words l.size (drop l.i l.places) (drop (l.size * l.i) l.words) l.bare ≡ with_words l.size l.places l.words l.initial.bare;
  len : length l.bare ≡ length l.initial.bare;
}
