-- What contracts see of a source in memory.
use Rattle.std.specs.Prelude.{ℕ, List}

-- the octets left, the most that a read returns, the numbers of the calls that fail, the calls made, and the number of calls that failed
pub record Supply : Type 0 where
  pub left : List ℕ
  pub piece : ℕ
  pub fails : List ℕ
  pub calls : ℕ
  pub faults : ℕ
