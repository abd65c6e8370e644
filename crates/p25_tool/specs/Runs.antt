-- The state after a call, and its result for an input without faults.
use Rattle.std.specs.Prelude.{◌≡◌, ℕ, true, false, if◌then◌else◌, nat_lt, List, length, take, Option, Some, None}
use Rattle.p25_filter.specs.{Runs.{Filtered, input_most}, declared.ending.Ending.{Ending}, declared.ending.FilterEnd.{FilterEnd}}
use Rattle.p25_tool.specs.{declared.command.Command.{Command}, declared.outcome.Outcome.{Outcome}, declared.outcome.Outcome.TheVariants.{TooLong}}
use Rattle.p25_tool.specs.{Outcomes.{ending_outcome, filter_outcome}, Outputs.{command_future, ending_by}}

-- the octets that a call of a command took and wrote, by its outcome
pub record Ran (told left first last : Option (List ℕ)) (command : Command) (outcome : Outcome) : Type 0 where
  pub end : FilterEnd
  pub outcome_is : outcome ≡ filter_outcome end
  pub worked : Filtered told left first last (command_future command) end

-- the outcome of an ending, or another
abbrev pub ending_or : Option Ending → Outcome → Outcome
ending_or (Some ending) other = ending_outcome ending
ending_or None other = other

-- the result of a call of a command for an input if no read and no write fails: by its contents, or that it is too long
abbrev pub answer_of : Command → List ℕ → Outcome
answer_of command input =
    if nat_lt input_most (length input) then ending_or (ending_by command false (take input_most input)) TooLong
    else ending_or (ending_by command true input) TooLong
