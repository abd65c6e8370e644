-- The end of a call: its line on standard error, and its status.
use Rattle.std.specs.Prelude.{ℕ, List, [], ◌++◌, codes, decimal}
use Rattle.p25_line.specs.{declared.fault.LineFault.{LineFault}, declared.fault.LineFault.TheVariants.{Long, Form, Kind, Key, Value}}
use Rattle.p25_filter.specs.{declared.ending.Ending.{Ending}, declared.ending.Ending.TheVariants.{Done as EndDone, Found as EndFound, BadLine as EndBadLine}}
use Rattle.p25_filter.specs.declared.ending.FilterEnd.{FilterEnd}
use Rattle.p25_filter.specs.declared.ending.FilterEnd.TheVariants.{Ended, ReadFault as ReadFailed, WriteFault as WriteFailed, TooLong as InputTooLong, Memory as NoMemory}
use Rattle.p25_tool.specs.declared.outcome.Outcome.{Outcome}
use Rattle.p25_tool.specs.declared.outcome.Outcome.TheVariants.{Done, Usage, BadLine, ReadFault, WriteFault, Memory, TooLong, Found}

-- the word of a fault in a line
abbrev pub fault_word : LineFault → List ℕ
fault_word Long = codes "long"
fault_word Form = codes "form"
fault_word Kind = codes "kind"
fault_word Key = codes "key"
fault_word Value = codes "value"

-- the line of an outcome, without its end
abbrev pub line_of : Outcome → List ℕ
line_of Done = []
line_of Usage = codes "usage"
line_of (BadLine line fault) = codes "line " ++ decimal line ++ codes ": " ++ fault_word fault
line_of ReadFault = codes "read fault"
line_of WriteFault = codes "write fault"
line_of Memory = codes "out of memory"
line_of TooLong = codes "input too long"
line_of (Found faults) = codes "found " ++ decimal faults

-- the exit status of the program
abbrev pub status_of : Outcome → ℕ
status_of Done = 0
status_of Usage = 1
status_of (BadLine line fault) = 2
status_of ReadFault = 3
status_of WriteFault = 4
status_of Memory = 5
status_of TooLong = 6
status_of (Found faults) = 7

-- the outcome of an ending of an input
abbrev pub ending_outcome : Ending → Outcome
ending_outcome EndDone = Done
ending_outcome (EndFound faults) = Found faults
ending_outcome (EndBadLine line fault) = BadLine line fault

-- the outcome of work on an input with this end
abbrev pub filter_outcome : FilterEnd → Outcome
filter_outcome (Ended ending) = ending_outcome ending
filter_outcome ReadFailed = ReadFault
filter_outcome WriteFailed = WriteFault
filter_outcome InputTooLong = TooLong
filter_outcome NoMemory = Memory
