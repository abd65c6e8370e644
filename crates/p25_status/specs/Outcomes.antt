-- The result of decoding, besides the value that is written to an argument.
use Rattle.std.specs.Prelude.{ℕ, List, [], ◌∷◌, Result, Ok, Err}
use Rattle.p25_status.specs.{declared.fields.Field.{Field}, declared.read_outcome.ReadOutcome.{ReadOutcome}}
use Rattle.p25_status.specs.declared.read_outcome.ReadOutcome.TheVariants.{Read, Failing}

-- the decoded value, or exactly the fields that fail
abbrev pub read_or : {X : Type 0} → ReadOutcome → X → Result X (List Field)
read_or (Read wrong) x = Ok x
read_or (Failing fields) x = Err fields

-- a condition on the number of bit errors, if no field fails
abbrev pub IfRead : ReadOutcome → (ℕ → Type 0) → Type 0
IfRead (Read wrong) P = P wrong
IfRead (Failing fields) P = Unit {0}

-- the outcome by the fields that fail, and by the number of bit errors
unfoldable pub outcome_of : List Field → ℕ → ReadOutcome
outcome_of [] wrong = Read wrong
outcome_of (field ∷ fields) wrong = Failing (field ∷ fields)
