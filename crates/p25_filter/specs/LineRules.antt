-- Machines over lines: the result of a line, and of lines up to the first that is refused.
use Rattle.std.specs.{Prelude.{◌≡◌, ℕ, ◌+◌, Bool, true, List, [], ◌∷◌, ◌++◌, Option, Some, None, Result, Ok, Err, IsOk}, List.{concat}}
use Rattle.p25_line.specs.declared.fault.LineFault.{LineFault}
use Rattle.p25_filter.specs.{declared.ending.Ending.{Ending}, declared.ending.Ending.TheVariants.{BadLine}, Lines.{closing_by}}
use Rattle.p25_filter.specs.{declared.line_machine.LineRefusal.{LineRefusal}, declared.line_machine.LineRefusal.TheVariants.{Fault, Memory}}

-- a machine over lines: the machine after a line and the text for it, or the line's fault; the output at the end of the input; and whether an
-- allocation may fail for a line
pub record LineRules (M : Type 0) : Type 0 where
  pub take : M → List ℕ → Result (M × List ℕ) LineFault
  pub closing : M → List ℕ
  pub wants : Bool

-- a line has no fault, and an allocation may fail for it
abbrev pub IsWanting : {M : Type 0} → LineRules M → M → List ℕ → Type 0
IsWanting rules machine line = (rules.wants ≡ true) × IsOk (rules.take machine line)

-- a line was taken, with this text for it; or it was not, there is no text and the machine is unchanged
abbrev pub IsLineTaken : {M : Type 0} → LineRules M → M → List ℕ → Result Unit LineRefusal → List ℕ → M → Type 0
IsLineTaken rules machine line (Ok done) text now = rules.take machine line ≡ Ok (now, text)
IsLineTaken rules machine line (Err Memory) text now = (now ≡ machine) × (text ≡ []) × IsWanting rules machine line
IsLineTaken rules machine line (Err (Fault fault)) text now = (now ≡ machine) × (text ≡ []) × (rules.take machine line ≡ Err fault)

-- the result of lines, up to the first that is refused: the texts for them, the machine after them, and the refusal with its number
pub record LinesTaken (M : Type 0) : Type 0 where
  pub texts : List (List ℕ)
  pub machine : M
  pub refusal : Option Ending

-- the result of a line of this number and of the lines after it, by the result of the line
abbrev pub first_taken : {M : Type 0} → ℕ → M → (M → LinesTaken M) → Result (M × List ℕ) LineFault → LinesTaken M
first_taken number machine rest (Ok next) = record (rest next.0) { texts = next.1 ∷ (rest next.0).texts }
first_taken number machine rest (Err fault) = record { texts = []; machine = machine; refusal = Some (BadLine number fault) }

-- the result of lines, the first of which has this number
unfoldable pub lines_taken : {M : Type 0} → (M → List ℕ → Result (M × List ℕ) LineFault) → ℕ → M → List (List ℕ) → LinesTaken M
lines_taken take number machine [] = record { texts = []; machine = machine; refusal = None }
lines_taken take number machine (line ∷ lines) =
    first_taken number machine (λ next. lines_taken take (number + 1) next lines) (take machine line)

-- the output for lines, by whether the input has ended with them
unfoldable pub written_for : {M : Type 0} → LineRules M → Bool → LinesTaken M → List ℕ
written_for rules ended taken = concat taken.texts ++ closing_by ended taken.refusal (rules.closing taken.machine)
