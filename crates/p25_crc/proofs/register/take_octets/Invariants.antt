use Rattle.std.proofs.Common.{ℕ, ◌-◌, ◌*◌, ◌^◌, Bool, List, ◌++◌, length, take, drop}
use Rattle.p25_bits.specs.{Bits.{field_of, octet_bits}, Divisible.{IsRemainder}}
use Rattle.p25_crc.specs.Remainders.{AreRemainders}
use Rattle.p25_crc.proofs.register.take_octets.Given as goal

abbrev pub invariant-loop-k : goal.invariant-loop-k
invariant-loop-k l =
    (divisor : ℕ) (before : List Bool) → AreRemainders divisor l.remainders → IsRemainder divisor 32 (field_of before * 2 ^ 32) l.initial.register
    → IsRemainder divisor 32 (field_of (before ++ octet_bits (take (4 * l.k) l.octets)) * 2 ^ 32) l.register

abbrev pub invariant-loop-octet : goal.invariant-loop-octet
invariant-loop-octet l =
    (divisor : ℕ) (before : List Bool) → AreRemainders divisor l.remainders → IsRemainder divisor 32 (field_of before * 2 ^ 32) l.initial.register
    → IsRemainder divisor 32 (field_of (before ++ octet_bits (take l.octet-index (take (length l.octets - 4 * l.words) (drop (4 * l.words) l.octets)))) * 2 ^ 32) l.register
