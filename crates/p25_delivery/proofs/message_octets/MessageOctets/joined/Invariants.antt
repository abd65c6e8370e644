use Rattle.std.proofs.Common.{◌≡◌, ◌*◌, Some, length, take}
use Rattle.p25_delivery.specs.Places.{all_octets}
use Rattle.p25_delivery.proofs.message_octets.MessageOctets.joined.Given as goal

abbrev pub invariant-loop-place : goal.invariant-loop-place
invariant-loop-place l = record { octets : all_octets (take l.place-index l.places) ≡ Some l.items.items; len : length l.items.items ≡ 16 * l.place-index }
