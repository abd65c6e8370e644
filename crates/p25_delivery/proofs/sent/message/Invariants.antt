use Rattle.std.proofs.Common.{◌≡◌, length, map}
use Rattle.p25_bits.specs.Numbers.{each_below}
use Rattle.p25_delivery.specs.{MessageBlocks.{message_block}, SentPackets.{good_slot}}
use Rattle.p25_delivery.proofs.sent.message.Given as goal

abbrev pub invariant-loop-serial : goal.invariant-loop-serial
invariant-loop-serial l = record { list : l.slots ≡ map good_slot (each_below l.serial (message_block l.message)); len : length l.slots ≡ l.serial }
