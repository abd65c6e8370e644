-- One call of the program: the words among its arguments, the run of these words, the line of its outcome and its status.
use Rattle.std.specs.{Prelude.{◌≡◌, ◌≤◌, ◌⊎◌, ℕ, List, [], ◌∷◌, ◌++◌, codes, drop, length, map, string_bytes, Option, Some, None, Result, Ok, Err}, List.{fold}}
use Rattle.std.specs.{Vec.Iter.{into_iter_items}, declared.vec.IntoIter.{IntoIter}, declared.string.String.{String}, declared.io.Error.{Error}}
use Rattle.std.specs.{declared.io.ErrorKind.{ErrorKind}, declared.io.ErrorKind.TheVariants.{OutOfMemory}, IoError.{error_kind}}
use Rattle.p25_io.specs.Events.{Event, Wrote, WriteFailed}
use Rattle.p25_tool.specs.{declared.outcome.Outcome.{Outcome}, declared.outcome.Outcome.TheVariants.{Memory}, CallRuns.{IsCallRun}}
use Rattle.p25_tool.specs.{Outcomes.{line_of, status_of}, Words.{added, command_of}}

-- the words of a call: its arguments one after another, but for the first, which is the program's own name
abbrev pub call_words : List (List ℕ) → List (List ℕ)
call_words arguments = fold added [] (drop 1 arguments)

-- the words if no arguments were returned: none if the allocation for them failed, and otherwise one that names no command
abbrev pub words_without : ErrorKind → Option (List (List ℕ))
words_without OutOfMemory = None
words_without kind = Some (codes "?" ∷ [])

-- the words of a call, by the result of reading its arguments
abbrev pub words_given : {Z : Type 0} → Result (IntoIter (String Z) Z) Error → Option (List (List ℕ))
words_given (Ok arguments) = Some (call_words (map string_bytes (into_iter_items arguments)))
words_given (Err error) = words_without (error_kind error)

-- the events of a call, and its outcome: those of its words, or none if the allocation for them failed
abbrev pub IsRunOf : Option (List (List ℕ)) → List Event → Outcome → Type 0
IsRunOf None events outcome = (events ≡ []) × (outcome ≡ Memory)
IsRunOf (Some words) events outcome = IsCallRun (command_of words) events outcome

-- a line and its LF; if there is no line, nothing
abbrev pub with_end : List ℕ → List ℕ
with_end [] = []
with_end (octet ∷ octets) = (octet ∷ octets) ++ 10 ∷ []

-- the text on standard error after a call
unfoldable pub error_text : Outcome → List ℕ
error_text outcome = with_end (line_of outcome)

-- exactly this text was written, or that write failed after some number of its first octets
abbrev pub IsTold : {P : Type 0} → (P → List Event → P → Type 0) → P → List ℕ → P → Type 0
IsTold moves first text last = moves first (Wrote text ∷ []) last ⊎ ((count : ℕ) × (count ≤ length text) × moves first (WriteFailed text count ∷ []) last)

-- one call of the program, by its words: the events of one run of them, the line of its outcome, which is written to the port of errors, and its
-- status
pub record IsOneCall {P : Type 0} (words : Option (List (List ℕ))) (events : List Event) (moves : P → List Event → P → Type 0) (first last : P) (status : ℕ)
    : Type 0 where
  pub outcome : Outcome
  pub run : IsRunOf words events outcome
  pub told : IsTold moves first (error_text outcome) last
  pub status_is : status ≡ status_of outcome
