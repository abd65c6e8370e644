use Rattle.std.proofs.Common.{◌≡◌, ◌+◌, ◌-◌, ◌*◌, ◌≤◌, true, length}
use Rattle.p25_script.specs.Values.{is_ascending, place_in}
use Rattle.p25_line.proofs.CommaReadLaws.{EntriesSoFar}
use Rattle.p25_script.proofs.PlacesLaws.{next_place}
use Rattle.p25_script.proofs.values.places_value.Given as goal

abbrev pub invariant-loop-start : goal.invariant-loop-start
invariant-loop-start l = record {
  so_far : EntriesSoFar place_in l.word l.start l.places;
  ascending : is_ascending l.places ≡ true;
  least : l.least ≡ next_place l.places;
  low : l.least ≤ 25920;
  count : 2 * length l.places ≤ l.start;
  within : l.start ≤ length l.word + 1;
}

abbrev pub decreases-loop-start : goal.decreases-loop-start
decreases-loop-start l = length l.word + 1 - l.start
