-- The output of a call that reached the end of its input.
use Rattle.std.specs.Prelude.{◌≡◌, ℕ, true, List, ◌++◌, Option, Some}
use Rattle.p25_tool.specs.{declared.command.Command.{Command}, declared.outcome.Outcome.{Outcome}}
use Rattle.p25_tool.specs.{declared.outcome.Outcome.TheVariants.{Done, Usage, BadLine, ReadFault, WriteFault, Memory, TooLong, Found}, Outputs.{output_by}}
use Rattle.p25_tool.specs.Runs.{Ran}

-- a call reached the end of its input
abbrev pub HasEnded : Outcome → Type 0
HasEnded Done = Unit {0}
HasEnded Usage = ⊥
HasEnded (BadLine line fault) = ⊥
HasEnded ReadFault = ⊥
HasEnded WriteFault = ⊥
HasEnded Memory = ⊥
HasEnded TooLong = ⊥
HasEnded (Found faults) = Unit {0}

-- it wrote the output of all that the source held, after the former contents
abbrev pub AllIsWritten : Type 0
AllIsWritten =
    (command : Command) (input written : List ℕ) (left last : Option (List ℕ)) (outcome : Outcome)
    → Ran (Some input) left (Some written) last command outcome → HasEnded outcome
    → last ≡ Some (written ++ output_by command true input)
