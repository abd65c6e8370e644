use Rattle.std.proofs.Common.{◌≡◌, ◌+◌, ◌-◌, ◌*◌, ◌≤◌, ◌++◌, length, take}
use Rattle.p25_bits.specs.Bits.{octet_bits}
use Rattle.p25_stream.proofs.finding.put_until.Given as goal

abbrev pub invariant-loop-taken : goal.invariant-loop-taken
invariant-loop-taken l = record {
  there : l.taken ≤ length l.octets;
  list : l.held ≡ l.initial.held ++ octet_bits (take l.taken l.octets);
  len : length l.held ≡ length l.initial.held + 8 * l.taken;
  most : length l.held ≤ 25927;
}

abbrev pub decreases-loop-taken : goal.decreases-loop-taken
decreases-loop-taken l = length l.octets - l.taken
