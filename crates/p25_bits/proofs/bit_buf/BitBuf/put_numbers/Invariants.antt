use Rattle.std.proofs.Common.{◌≡◌, ◌+◌, ◌*◌, ◌++◌, length, take}
use Rattle.p25_bits.specs.Numbers.{number_bits}
use Rattle.p25_bits.proofs.bit_buf.BitBuf.put_numbers.Given as goal

abbrev pub invariant-loop-number : goal.invariant-loop-number
invariant-loop-number l = (l.self ≡ l.initial.self ++ number_bits l.width (take l.number-index l.numbers)) × (length l.self ≡ length l.initial.self + l.width * l.number-index)
