use Rattle.std.proofs.Common.{◌≡◌, ◌-◌, ◌++◌, take}
use Rattle.p25_bits.specs.Bits.{bits_of}
use Rattle.p25_bits.proofs.numbers.put_number.Given as goal

abbrev pub invariant-loop-i : goal.invariant-loop-i
invariant-loop-i l = take l.i l.bits ++ bits_of (l.width - l.i) l.number ≡ bits_of l.width l.number
