-- The work of `sample`: the write of its line is a live run, whatever input there is.
use Rattle.std.proofs.Common.{◌≡◌, ℕ, ◌<◌, ◌≤◌, List, [], ◌∷◌, length, refl, sym, arith, append-nil}
use Rattle.p25_io.specs.Events.{Wrote, WriteFailed}
use Rattle.p25_filter.specs.{Traces.{IsDue, IsRun, at_first}, declared.ending.Ending.TheVariants.{Done}, declared.ending.FilterEnd.TheVariants.{Ended, WriteFault}}
use Rattle.p25_tool.specs.{declared.command.Command.TheVariants.{Sample}, Outputs.{command_future, sample_line}}

some-line : (line : List ℕ) (first : ℕ) (rest : List ℕ) → line ≡ first ∷ rest → 0 < length line
some-line [] first rest same = cc
some-line (x ∷ xs) first rest same = omega arith

sample-due : (count : ℕ) → IsDue (command_future (Sample count)) at_first (sample_line count)
sample-due count = record {
  some = some-line (sample_line count) _ _ refl;
  decided = λ ended more. record { rest = []; is = sym (append-nil (sample_line count)) };
}

pub sample-wrote : (count : ℕ) → IsRun (command_future (Sample count)) (Wrote (sample_line count) ∷ []) (Ended Done)
sample-wrote count = record { live = (sample-due count, tt); ends = (λ is more. refl, λ is more. refl) }

pub sample-failed : (count so_many : ℕ) → so_many ≤ length (sample_line count)
    → IsRun (command_future (Sample count)) (WriteFailed (sample_line count) so_many ∷ []) WriteFault
sample-failed count so_many fits = record { live = ((sample-due count, fits), tt); ends = (sample_line count, so_many, ([], refl)) }
