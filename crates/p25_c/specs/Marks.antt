-- Marks of symbols that are not known.
use Rattle.std.specs.Prelude.{ℕ, ◌==◌, not, Bool}

-- an octet that is not 0 is a mark
abbrev pub is_marked : ℕ → Bool
is_marked octet = not (octet == 0)
