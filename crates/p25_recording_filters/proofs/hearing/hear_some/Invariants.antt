use Rattle.std.proofs.Common.{◌≡◌, ℕ, ◌+◌, ◌<◌, ◌++◌, false, length, map, take}
use Rattle.p25_recording_filters.specs.{SoftLevels.{octet_level}, Softs.{IsHoldingAfter}}
use Rattle.p25_recording_filters.proofs.hearing.hear_some.Given as goal

abbrev pub invariant-loop-i : goal.invariant-loop-i
invariant-loop-i l = record {
  list : l.levels ≡ l.initial.levels ++ map octet_level (take l.i l.octets);
  len : length l.levels ≡ length l.initial.levels + l.i;
  holding : (ahead : ℕ) → IsHoldingAfter ahead l.initial.scanner l.initial.levels → IsHoldingAfter ahead l.scanner l.levels;
  place : l.scanner.place ≡ l.initial.scanner.place;
  going : l.scanner.finished ≡ false;
  same : l.i < l.count → l.scanner ≡ l.initial.scanner;
}
