use Rattle.std.proofs.Common.{◌≡◌, ◌++◌, ◌-◌, false, length, take, map, replicate}
use Rattle.std.specs.Prelude.{is_some}
use Rattle.p25_delivery.proofs.block_places.BlockPlaces.flags.Given as goal

abbrev pub invariant-loop-i : goal.invariant-loop-i
invariant-loop-i l = record { list : l.flags ≡ map is_some (take l.i l.place-items) ++ replicate (l.count - l.i) false; len : length l.flags ≡ l.count }
