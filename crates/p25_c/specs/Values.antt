-- Yes and no as octets.
use Rattle.std.specs.Prelude.{ℕ, ◌==◌, Bool, not, if◌then◌else◌}

-- 1 for yes and 0 for no
abbrev pub flag : Bool → ℕ
flag holds = if holds then 1 else 0

-- all but 0 is yes
abbrev pub is_set : ℕ → Bool
is_set octet = not (octet == 0)
