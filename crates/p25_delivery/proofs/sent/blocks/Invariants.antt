use Rattle.std.proofs.Common.{◌≡◌, ◌≤◌, length}
use Rattle.p25_bits.specs.Numbers.{joined_below}
use Rattle.p25_delivery.proofs.SentPacketsLaws.{wanted_slot}
use Rattle.p25_delivery.proofs.sent.blocks.Given as goal

abbrev pub invariant-loop-serial : goal.invariant-loop-serial
invariant-loop-serial l = record { list : l.slots ≡ joined_below l.serial (wanted_slot l.message l.wanted); len : length l.slots ≤ l.serial }
