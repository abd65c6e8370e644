-- The octets read so far; the lines that they decide are printed.
use Rattle.std.proofs.Common.{◌≡◌, ℕ, ◌+◌, ◌*◌, ◌≤◌, List, [], false, length}
use Rattle.std.specs.Io.KnownBytes.{Consumes}
use Rattle.p25_bits.specs.Bits.{octet_bits}
use Rattle.p25_stream.specs.Scan.{Scan, given}
use Rattle.p25_example_groups.specs.Printed.{HasPrinted}
use Rattle.p25_example_groups.proofs.print_groups.Given as goal

abbrev pub invariant-loop : goal.invariant-loop
invariant-loop g l = record {
  drained : given l.scanner ≡ [];
  going : l.scanner.finished ≡ false;
  bits : l.scanner.place + length l.scanner.held ≤ 32768 * l.counter;
  room : length l.octets ≡ 4096;
  read : (all : List ℕ)
      × (l.counter ≤ length all)
      × Consumes (g.R.Read.remaining l.initial.input) (g.R.Read.remaining l.input) all
      × HasPrinted (octet_bits all) (g.W.Write.contents l.initial.output) (record { place = 0; held = []; finished = false }) (g.W.Write.contents l.output) l.scanner;
}
