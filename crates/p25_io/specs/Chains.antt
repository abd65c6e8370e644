-- Relations of two states of a port and the events between them.
use Rattle.std.specs.Prelude.{List, [], ◌++◌}
use Rattle.p25_io.specs.Events.{Event}

-- no event leads from a state to itself, and sequences of events compose
pub record Chain {P : Type 0} (moves : P → List Event → P → Type 0) : Type 0 where
  pub stays : (port : P) → moves port [] port
  pub joins : {first next last : P} → (xs ys : List Event) → moves first xs next → moves next ys last → moves first (xs ++ ys) last
