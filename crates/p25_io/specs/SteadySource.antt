-- What contracts see of a source that never fails.
use Rattle.std.specs.Prelude.{ℕ, List}

-- the octets left, and the most that a read returns
pub record SteadySupply : Type 0 where
  pub left : List ℕ
  pub piece : ℕ
