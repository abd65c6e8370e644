-- The text of the number of sessions.
use Rattle.std.specs.Prelude.{ℕ, nat_lt, if◌then◌else◌, List, [], ◌++◌, codes, decimal}

-- the number of sessions, if there was more than one
abbrev pub sessions_text : ℕ → List ℕ
sessions_text sessions = if nat_lt 1 sessions then codes " sessions=" ++ decimal sessions else []
