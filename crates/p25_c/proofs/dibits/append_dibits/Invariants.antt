use Rattle.std.proofs.Common.{◌≡◌, ◌+◌, ◌*◌, take}
use Rattle.p25_bits.specs.Numbers.{number_bits}
use Rattle.p25_c.specs.Streams.{HasTaken}
use Rattle.p25_c.proofs.dibits.append_dibits.Given as goal

-- so many dibits are taken
abbrev pub invariant-loop-i : goal.invariant-loop-i
invariant-loop-i l = record {
  count : 4 * l.stream.held + l.stream.dibits ≡ 4 * l.initial.stream.held + l.initial.stream.dibits + l.i;
  taken : HasTaken (number_bits 2 (take l.i l.dibits)) l.initial.stream l.stream;
}
