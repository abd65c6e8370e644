use Rattle.std.proofs.Common.{◌≡◌, ◌+◌, ◌-◌, ◌*◌, ◌≤◌, length}
use Rattle.p25_coded_fields.specs.Layouts.{places_from}
use Rattle.p25_vectors.specs.Damage.{word_hits}
use Rattle.p25_vectors.proofs.HitsLaws.{outcome}
use Rattle.p25_vectors.proofs.damage.damage_blocks.Given as goal

abbrev pub invariant-loop-j : goal.invariant-loop-j
invariant-loop-j l = record {
  left :
      outcome (word_hits 196 l.radius 0 (places_from (308 + 196 * l.j) 196 (l.count - l.j))) l.draws l.bits l.flips
      ≡ outcome (word_hits 196 l.radius 0 (places_from 308 196 l.count)) l.initial.draws l.initial.bits 0;
  len : length l.bits ≡ length l.initial.bits;
  few : l.flips ≤ 2 * l.j;
}
