use Rattle.p25_follow.proofs.{FitLaws.{items-fit}, RelayedLaws.{relayed-found}, RelayedPlacesLaws.{relay-in-place, relay-keeps, relay-long}, RelayedUnitsLaws.{relay-same}}
use Rattle.p25_follow.proofs.laws.relay_laws.Goals as goal

pub returns : goal.returns
returns c = record { fits = items-fit; length = relay-long; places = relay-in-place; found = relayed-found; units = relay-keeps; same = relay-same }
