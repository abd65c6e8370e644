use Rattle.std.proofs.Common.{◌≡◌, take, drop}
use Rattle.p25_bits.specs.Numbers.{numbers_from}
use Rattle.p25_bits.proofs.bit_buf.BitBuf.take_from.Given as goal

abbrev pub invariant-loop-i : goal.invariant-loop-i
invariant-loop-i l = take l.i l.numbers ≡ numbers_from l.width l.i (drop l.at l.self)
