use Rattle.std.proofs.Common.{◌≡◌, None, replicate}
use Rattle.p25_delivery.proofs.block_places.BlockPlaces.new.Given as goal

abbrev pub invariant-loop-place : goal.invariant-loop-place
invariant-loop-place l = l.places.items ≡ replicate l._place None
