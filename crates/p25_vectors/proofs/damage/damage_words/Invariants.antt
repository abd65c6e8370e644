use Rattle.std.proofs.Common.{◌≡◌, ◌-◌, ◌*◌, ◌≤◌, drop, length}
use Rattle.p25_vectors.specs.Damage.{word_hits}
use Rattle.p25_vectors.proofs.HitsLaws.{outcome}
use Rattle.p25_vectors.proofs.damage.damage_words.Given as goal

abbrev pub invariant-loop-i : goal.invariant-loop-i
invariant-loop-i l = record {
  left :
      outcome (word_hits l.words.size l.words.radius (l.whole - l.i) (drop l.i l.places)) l.draws l.bits l.flips
      ≡ outcome (word_hits l.words.size l.words.radius l.whole l.places) l.initial.draws l.initial.bits 0;
  len : length l.bits ≡ length l.initial.bits;
  few : l.flips ≤ 24 * l.i;
}
