-- None is counted if and only if a run is clean, because each step of the duplex world counts its own false pass.
use Rattle.std.proofs.Common.{◌≡◌, ℕ, Bool, List, refl}
use Rattle.p25_stations.proofs.CountedLaws.{Counts, none-counted, none-from}
use Rattle.p25_duplex.specs.{declared.event.DuplexEvent.{DuplexEvent}, declared.event.DuplexStep.{DuplexStep}, DuplexSteps.{DuplexState, first_duplex, duplex_step}}
use Rattle.p25_duplex.specs.DuplexRuns.{duplex_run, IsCleanDuplex}

abbrev passes-in : DuplexState → ℕ
passes-in d = d.false_passes

abbrev false-in : DuplexStep → Bool
false-in step = step.step.false_pass

step-counts : Counts duplex_step passes-in false-in
unfolding duplex_step
step-counts d event = refl

pub clean-from_none : (events : List DuplexEvent) → (duplex_run first_duplex events).false_passes ≡ 0 → IsCleanDuplex events
clean-from_none events e = (none-counted duplex_step passes-in false-in step-counts events first_duplex e).1

pub none-from_clean : (events : List DuplexEvent) → IsCleanDuplex events → (duplex_run first_duplex events).false_passes ≡ 0
none-from_clean events clean = none-from duplex_step passes-in false-in step-counts events first_duplex refl clean
