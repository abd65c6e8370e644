use Rattle.std.proofs.Common.{◌*◌, ◌^◌, ◌<◌}
use Rattle.p25_bits.specs.Bits.{bits_of}
use Rattle.p25_code.specs.LeastCost.{IsAlone}
use Rattle.p25_code.proofs.least_cost.hard_word.Given as goal

abbrev pub invariant-loop-i : goal.invariant-loop-i
invariant-loop-i l = record {
  fits : l.word < 2 ^ (2 * l.i);
  alone : IsAlone l.costs (bits_of (2 * l.i) l.word);
}
