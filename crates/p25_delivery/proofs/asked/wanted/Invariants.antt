use Rattle.std.proofs.Common.{◌≡◌, ◌++◌, ◌-◌, false, length, take, map, replicate}
use Rattle.std.specs.Prelude.{not}
use Rattle.p25_delivery.proofs.asked.wanted.Given as goal

abbrev pub invariant-loop-block : goal.invariant-loop-block
invariant-loop-block l = record { list : l.wanted ≡ map not (take l.block l.flags) ++ replicate (length l.flags - l.block) false; len : length l.wanted ≡ length l.flags }
