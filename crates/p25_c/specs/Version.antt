-- The release as a number.
use Rattle.std.specs.Prelude.{ℕ, ◌+◌, ◌*◌}

-- the number of a release by its three numbers
abbrev pub release_number : ℕ → ℕ → ℕ → ℕ
release_number major minor patch = 10000 * major + 100 * minor + patch
