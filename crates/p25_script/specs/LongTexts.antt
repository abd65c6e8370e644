-- The texts of the steps of long messages, and the text that closes a run.
use Rattle.std.specs.Prelude.{ℕ, ◌+◌, List, [], ◌∷◌, ◌++◌, length, Option, Some, None, codes, decimal}
use Rattle.p25_line.specs.Octets.{octets_text}
use Rattle.p25_stations.specs.{declared.step.Step.{Step}, SessionTexts.{sessions_text}}
use Rattle.p25_script.specs.StepTexts.{step_text_of}
use Rattle.p25_fragments.specs.{LongState.{LongState}, declared.long_step.Then.{Then}}
use Rattle.p25_fragments.specs.declared.long_step.Then.TheVariants.{Plain, Started, Busy, Down, Part, Whole, Refused, Next, Finished}
use Rattle.p25_fragments.specs.declared.long_step.LongStep.{LongStep}

-- a text as a line with its end
abbrev pub ended_line : List ℕ → List ℕ
ended_line text = text ++ 10 ∷ []

-- the line of the step of the inner world, if there is one
unfoldable pub first_line_of : Option Step → List ℕ
first_line_of None = []
first_line_of (Some step) = ended_line (step_text_of step)

-- the line before it
unfoldable pub line_before : Then → List ℕ
line_before (Started parts) = ended_line (codes "long taken parts=" ++ decimal parts)
line_before other = []

-- the line after it, or instead of it
unfoldable pub line_behind : Then → List ℕ
line_behind Plain = []
line_behind (Started parts) = []
line_behind Busy = ended_line (codes "long busy")
line_behind Down = ended_line (codes "long down")
line_behind (Part number) = ended_line (codes "part " ++ decimal number)
line_behind (Whole message) = ended_line (codes "whole message=" ++ octets_text message)
line_behind Refused = ended_line (codes "part refused")
line_behind (Next step) = ended_line (step_text_of step)
line_behind Finished = ended_line (codes "long acknowledged")

-- the text of a step: its lines, each with its end
unfoldable pub long_step_text_of : LongStep → List ℕ
long_step_text_of step = line_before step.then ++ first_line_of step.first ++ line_behind step.then

-- the text that closes a run, without the end of its line
unfoldable pub long_closing_text_of : LongState → List ℕ
long_closing_text_of w =
    codes "taken=" ++ decimal (length w.taken) ++ codes " whole=" ++ decimal (length w.whole)
    ++ codes " acknowledged=" ++ decimal w.acknowledged ++ codes " false=" ++ decimal w.inner.false_passes
    ++ sessions_text (length w.inner.delivery.outbound.marks + 1)
