-- What contracts see of a sink in memory.
use Rattle.std.specs.Prelude.{ℕ, List}

-- the octets written, how many more fit, the numbers of the calls that fail, the calls made, and the number of calls that failed
pub record Storage : Type 0 where
  pub written : List ℕ
  pub room : ℕ
  pub fails : List ℕ
  pub calls : ℕ
  pub faults : ℕ
