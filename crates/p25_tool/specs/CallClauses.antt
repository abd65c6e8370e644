-- The laws of each call.
use Rattle.std.specs.Prelude.{◌≡◌, ℕ, ◌≤◌, ◌↔◌, ◌⊎◌, List, [], length, Option, Some, None, IfSome}
use Rattle.p25_stream.specs.Arrivals.{Arrival}
use Rattle.p25_stations.specs.declared.step.Event.{Event}
use Rattle.p25_fragments.specs.declared.long_step.LongEvent.{LongEvent}
use Rattle.p25_duplex.specs.declared.event.DuplexEvent.{DuplexEvent}
use Rattle.p25_filter.specs.Runs.{all_written, input_most}
use Rattle.p25_tool.specs.{declared.command.Command.{Command}, declared.command.Command.TheVariants.{Duplex, Fragments, Sample, Stations}}
use Rattle.p25_tool.specs.{declared.outcome.Outcome.{Outcome}, declared.outcome.Outcome.TheVariants.{Done, Memory, ReadFault, Usage, WriteFault}}
use Rattle.p25_tool.specs.{Outputs.{CanWantMemory, command_future}, Recorded.{IsRecording}, RecordedRuns.{HasWrittenUnits, IsUnitCommand}}
use Rattle.p25_tool.specs.{Runs.{Ran, answer_of}, Scripts.{HasDuplexRun, HasLongRun, HasRun, IsDuplexScriptOf, IsLongScriptOf, IsScriptOf}}

-- the laws of a call by the command that its words name, if they name one: the octets exposed to be read and those left, the octets written first and
-- last, whether a read or a write failed, whether the source and the sink are unchanged, and the outcome. `usage`, `untouched`: words that name no
-- command, and only these, are refused, and nothing is read or written. `ran`: the octets taken and written, and the end. `unread`, `quiet`: `sample`
-- reads nothing, and an input without output leaves the sink unchanged. `complete`, `sampled`: the result if nothing failed. `stations`, `fragments`,
-- `duplex`: the consequences for a script whose lines are all read. `recorded`: the consequences for a recording of data units within the correction
-- radius. `read_fault`, `write_fault`, `memory`: the reason why a call was given up
pub record CallSays (named : Option Command) (told left first last : Option (List ℕ)) (read_failed write_failed source_kept sink_kept : Type 0)
    (outcome : Outcome) : Type 0 where
  pub usage : (outcome ≡ Usage) ↔ (named ≡ None)
  pub untouched : outcome ≡ Usage → source_kept × sink_kept
  pub ran : IfSome named (λ command. Ran told left first last command outcome)
  pub unread : (count : ℕ) → named ≡ Some (Sample count) → source_kept
  pub quiet : (command : Command) (input : List ℕ) → named ≡ Some command → told ≡ Some input → all_written (command_future command) input ≡ []
      → sink_kept
  pub complete : (command : Command) (input : List ℕ) → named ≡ Some command → told ≡ Some input → ¬ read_failed → ¬ write_failed
      → (outcome ≡ answer_of command input) ⊎ ((outcome ≡ Memory) × CanWantMemory command)
  pub sampled : (count : ℕ) → named ≡ Some (Sample count) → ¬ write_failed → outcome ≡ Done
  pub stations : (input : List ℕ) (events : List Event) → named ≡ Some Stations → told ≡ Some input → IsScriptOf input events → ¬ read_failed
      → ¬ write_failed → HasRun first last events outcome
  pub fragments : (input : List ℕ) (events : List LongEvent) → named ≡ Some Fragments → told ≡ Some input → IsLongScriptOf input events
      → ¬ read_failed → ¬ write_failed → HasLongRun first last events outcome
  pub duplex : (input : List ℕ) (events : List DuplexEvent) → named ≡ Some Duplex → told ≡ Some input → IsDuplexScriptOf input events
      → ¬ read_failed → ¬ write_failed → HasDuplexRun first last events outcome
  pub recorded : (command : Command) (arrivals : List Arrival) (input : List ℕ) → named ≡ Some command → IsUnitCommand command → told ≡ Some input
      → IsRecording arrivals input → length input ≤ input_most → ¬ read_failed → ¬ write_failed → HasWrittenUnits first last command arrivals outcome
  pub read_fault : outcome ≡ ReadFault → read_failed
  pub write_fault : outcome ≡ WriteFault → write_failed
  pub memory : outcome ≡ Memory → IfSome named CanWantMemory
