use Rattle.std.proofs.Common.{◌≡◌, ◌+◌, ◌-◌, ◌*◌, ◌≤◌, [], false, length, take}
use Rattle.p25_bits.specs.Bits.{octet_bits}
use Rattle.p25_stream.specs.Scan.{given}
use Rattle.p25_example_groups.specs.Printed.{HasPrinted}
use Rattle.p25_example_groups.proofs.scan.Given as goal

abbrev pub invariant-loop-taken : goal.invariant-loop-taken
invariant-loop-taken g l = record {
  there : l.taken ≤ length l.octets;
  drained : given l.scanner ≡ [];
  going : l.scanner.finished ≡ false;
  bits : l.scanner.place + length l.scanner.held ≡ l.initial.scanner.place + length l.initial.scanner.held + 8 * l.taken;
  printed : HasPrinted (octet_bits (take l.taken l.octets)) (g.W.Write.contents l.initial.output) l.initial.scanner (g.W.Write.contents l.output) l.scanner;
}

abbrev pub decreases-loop-taken : goal.decreases-loop-taken
decreases-loop-taken g l = length l.octets - l.taken
