use Rattle.std.proofs.Common.{◌-◌, ◌/◌, ◌^◌}
use Rattle.p25_bits.specs.Divisible.{IsRemainder}
use Rattle.p25_bits.proofs.division.number_remainder.Given as goal

abbrev pub invariant-loop-k : goal.invariant-loop-k
invariant-loop-k l = IsRemainder l.generator l.degree (l.number / 2 ^ (64 - l.k)) l.remainder
