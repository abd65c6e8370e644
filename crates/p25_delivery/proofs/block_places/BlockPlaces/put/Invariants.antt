use Rattle.std.proofs.Common.{◌≡◌, take}
use Rattle.p25_delivery.specs.Places.{put_slots}
use Rattle.p25_delivery.proofs.block_places.BlockPlaces.put.Given as goal

abbrev pub invariant-loop-j : goal.invariant-loop-j
invariant-loop-j l = record { list : l.self-inside.places.items ≡ put_slots l.initial.self-inside.places.items (take l.j l.slots); pad : l.self-inside.pad ≡ l.initial.self-inside.pad }
