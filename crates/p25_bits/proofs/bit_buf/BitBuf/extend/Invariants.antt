use Rattle.std.proofs.Common.{◌≡◌, ◌+◌, ◌*◌, ◌++◌, length, take}
use Rattle.p25_bits.proofs.bit_buf.BitBuf.extend.Given as goal

abbrev pub invariant-loop-k : goal.invariant-loop-k
invariant-loop-k l = (l.self ≡ l.initial.self ++ take (64 * l.k) l.bits) × (length l.self ≡ length l.initial.self + 64 * l.k)
