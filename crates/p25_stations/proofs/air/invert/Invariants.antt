use Rattle.std.proofs.Common.{◌≡◌, take, length}
use Rattle.p25_stations.specs.Air.{with_flips}
use Rattle.p25_stations.proofs.air.invert.Given as goal

abbrev pub invariant-loop-i : goal.invariant-loop-i
invariant-loop-i l = record { bits : l.bits ≡ with_flips l.initial.bits (take l.i l.flips); len : length l.bits ≡ length l.initial.bits }
