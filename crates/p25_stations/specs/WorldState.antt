-- The state of the world of the two stations.
use Rattle.std.specs.Prelude.{ℕ}
use Rattle.p25_delivery.specs.Delivery.{Delivery, first_delivery}

-- a delivery of the two stations, and the number of false passes
pub record WorldState : Type 0 where
  pub delivery : Delivery
  pub false_passes : ℕ

-- a world before the first step
abbrev pub first_world : WorldState
first_world = record { delivery = first_delivery; false_passes = 0 }
