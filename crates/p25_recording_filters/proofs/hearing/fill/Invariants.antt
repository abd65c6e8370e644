use Rattle.std.proofs.Common.{◌≡◌, ℕ, ◌+◌, ◌<◌, ◌++◌, false, length, replicate}
use Rattle.std.specs.Prelude.{pos}
use Rattle.p25_recording_filters.specs.Softs.{IsHoldingAfter}
use Rattle.p25_recording_filters.proofs.hearing.fill.Given as goal

abbrev pub invariant-loop-filled : goal.invariant-loop-filled
invariant-loop-filled l = record {
  list : l.levels ≡ l.initial.levels ++ replicate l._filled (pos 32);
  len : length l.levels ≡ length l.initial.levels + l._filled;
  holding : (ahead : ℕ) → IsHoldingAfter ahead l.initial.scanner l.initial.levels → IsHoldingAfter ahead l.scanner l.levels;
  place : l.scanner.place ≡ l.initial.scanner.place;
  going : l.scanner.finished ≡ false;
  same : l._filled < l.missing → l.scanner ≡ l.initial.scanner;
}
