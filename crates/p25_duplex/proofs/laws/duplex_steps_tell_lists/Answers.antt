use Rattle.std.proofs.Common.{◌≡◌, List, arith}
use Rattle.p25_duplex.specs.{declared.side.Side.{Side}, declared.side.Side.TheVariants.{A, B}, declared.event.DuplexEvent.{DuplexEvent}, DuplexSteps.{first_duplex, other_side, station_at}}
use Rattle.p25_duplex.specs.DuplexRuns.{duplex_run, duplex_steps, side_acknowledged_in, side_heard_in, side_sent_in}
use Rattle.p25_duplex.proofs.DuplexListsLaws.{run-heard, run-sent, run-acknowledged}
use Rattle.p25_duplex.proofs.laws.duplex_steps_tell_lists.Goals as goal

-- from the first world on, which has no messages

from-first-heard : (side : Side) (events : List DuplexEvent) → (station_at side (duplex_run first_duplex events)).inbound.received ≡ side_heard_in side (duplex_steps first_duplex events)
from-first-heard A events = run-heard A events first_duplex
from-first-heard B events = run-heard B events first_duplex

from-first-sent : (side : Side) (events : List DuplexEvent) → (station_at side (duplex_run first_duplex events)).outbound.sent ≡ side_sent_in side events (duplex_steps first_duplex events)
from-first-sent A events = run-sent A events first_duplex
from-first-sent B events = run-sent B events first_duplex

from-first-acknowledged : (side : Side) (events : List DuplexEvent)
    → (station_at side (duplex_run first_duplex events)).outbound.acknowledged ≡ side_acknowledged_in side (duplex_steps first_duplex events)
from-first-acknowledged A events = omega (arith, run-acknowledged A events first_duplex)
from-first-acknowledged B events = omega (arith, run-acknowledged B events first_duplex)

pub returns : goal.returns
returns c = record {
  delivered = λ events side. from-first-heard (other_side side) events;
  sent = λ events side. from-first-sent side events;
  acknowledged = λ events side. from-first-acknowledged side events;
}
