use Rattle.std.proofs.Common.{◌≡◌, ◌-◌, ◌≤◌, ◌++◌, length, take}
use Rattle.p25_bits.specs.Bits.{octet_bits}
use Rattle.p25_stream.specs.Judgements.{IsJudged}
use Rattle.p25_stream.proofs.finding.fill.Given as goal

abbrev pub invariant-loop-taken : goal.invariant-loop-taken
invariant-loop-taken l = record {
  there : l.taken ≤ length l.octets;
  list : l.held ≡ l.fn.held ++ octet_bits (take l.taken l.octets);
  known : IsJudged l.judged l.held;
  most : length l.held ≤ 25927;
}

abbrev pub decreases-loop-taken : goal.decreases-loop-taken
decreases-loop-taken l = length l.octets - l.taken
