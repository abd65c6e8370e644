use Rattle.std.proofs.Common.{◌≡◌, ◌+◌, ◌*◌, length, take, drop}
use Rattle.p25_bits.specs.Numbers.{numbers_from}
use Rattle.p25_bits.proofs.bit_buf.BitBuf.take_eights.Given as goal

abbrev pub invariant-loop-g : goal.invariant-loop-g
invariant-loop-g l = (length l.octets ≡ length l.fn.octets) × (take (8 * l.g) l.octets ≡ numbers_from 8 (8 * l.g) (drop l.at l.self))

abbrev pub invariant-loop-k : goal.invariant-loop-k
invariant-loop-k l = (length l.octets ≡ length l.fn.octets) × (take (8 * l.g + l.k) l.octets ≡ numbers_from 8 (8 * l.g + l.k) (drop l.at l.self))
