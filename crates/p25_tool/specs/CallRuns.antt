-- The reads and writes of a call, their order, and its end.
use Rattle.std.specs.Prelude.{◌≡◌, ℕ, List, [], ◌∷◌, Option, Some, None}
use Rattle.p25_io.specs.Events.{Event, Read, ReadFailed, Wrote, WriteFailed}
use Rattle.p25_filter.specs.{Traces.{IsRun}, declared.ending.FilterEnd.{FilterEnd}}
use Rattle.p25_tool.specs.{declared.command.Command.{Command}, declared.command.Command.TheVariants.{Sample}, declared.outcome.Outcome.{Outcome}}
use Rattle.p25_tool.specs.{declared.outcome.Outcome.TheVariants.{Usage}, Outcomes.{filter_outcome}, Outputs.{command_future}}

-- no event is a read
abbrev pub AreWrites : List Event → Type 0
AreWrites [] = Unit {0}
AreWrites (Read octets ∷ events) = ⊥
AreWrites (ReadFailed ∷ events) = ⊥
AreWrites (Wrote piece ∷ events) = AreWrites events
AreWrites (WriteFailed piece count ∷ events) = AreWrites events

-- the events of a command are a live run of its future to an end, and the outcome is that of this end; `sample` reads nothing
pub record IsCommandRun (command : Command) (events : List Event) (outcome : Outcome) : Type 0 where
  pub end : FilterEnd
  pub outcome_is : outcome ≡ filter_outcome end
  pub run : IsRun (command_future command) events end
  pub unread : (count : ℕ) → command ≡ Sample count → AreWrites events

-- the events of a call, by the command that its words name: if they name none there is no event
abbrev pub IsCallRun : Option Command → List Event → Outcome → Type 0
IsCallRun None events outcome = (events ≡ []) × (outcome ≡ Usage)
IsCallRun (Some command) events outcome = IsCommandRun command events outcome
