-- The remaining output of a running command, and its end, for the octets that may still come.
use Rattle.std.specs.Prelude.{◌≡◌, ℕ, Bool, true, false, List, [], ◌++◌, Contains, Option, Some, None, Result, Ok, Err}
use Rattle.p25_filter.specs.{declared.ending.Ending.{Ending}, declared.ending.Refusal.{Refusal}, declared.ending.Refusal.TheVariants.{Ended, Memory}}

-- for each list of octets that may come, the last ones of the input or not: the output for them, the end of the call by them, if there is one, and
-- the texts after which an allocation may fail
pub record Future : Type 0 where
  pub writes : Bool → List ℕ → List ℕ
  pub ends : Bool → List ℕ → Option Ending
  pub pauses : Bool → List ℕ → List (List ℕ)

-- some octets came and a text was returned; each text after which an allocation may fail now is, with the one returned before it, one of before
pub record Progress (before : Future) (octets text : List ℕ) (now : Future) : Type 0 where
  pub writes : (ended : Bool) (more : List ℕ) → before.writes ended (octets ++ more) ≡ text ++ now.writes ended more
  pub ends : (ended : Bool) (more : List ℕ) → before.ends ended (octets ++ more) ≡ now.ends ended more
  pub pauses : (ended : Bool) (more pause : List ℕ) → Contains (now.pauses ended more) pause → Contains (before.pauses ended (octets ++ more)) (text ++ pause)

-- the input ended: no octets are taken any more
pub record IsClosed (before now : Future) : Type 0 where
  pub writes : (ended : Bool) (more : List ℕ) → now.writes ended more ≡ before.writes true []
  pub ends : (ended : Bool) (more : List ℕ) → now.ends ended more ≡ before.ends true []
  pub pauses : (ended : Bool) (more : List ℕ) → now.pauses ended more ≡ before.pauses true []

-- the call is refused, whatever comes, and nothing more is written
pub record IsRefused (now : Future) (ending : Ending) : Type 0 where
  pub writes : (ended : Bool) (more : List ℕ) → now.writes ended more ≡ []
  pub ends : (ended : Bool) (more : List ℕ) → now.ends ended more ≡ Some ending

-- an allocation may fail here, whatever comes
abbrev pub IsPausing : Future → Type 0
IsPausing now = (ended : Bool) (more : List ℕ) → Contains (now.pauses ended more) []

-- the reason why there is no next chunk
unfoldable pub IsRefusedBy : Future → Refusal → Type 0
IsRefusedBy now (Ended ending) = IsRefused now ending
IsRefusedBy now Memory = IsPausing now

-- the result of the call for the next chunk
unfoldable pub NextPiece : Future → Result Bool Refusal → List ℕ → Future → Type 0
NextPiece before (Ok true) piece now = Progress before [] piece now
NextPiece before (Ok false) piece now = now ≡ before
NextPiece before (Err refusal) piece now = IsRefusedBy before refusal

-- without a chunk: all was written if the input has ended, and otherwise all that the octets so far determine
unfoldable pub IsIdle : Bool → Future → Type 0
IsIdle true now = (ended : Bool) (more : List ℕ) → now.writes ended more ≡ []
IsIdle false now = (now.writes false [] ≡ []) × (now.ends false [] ≡ None)
