use Rattle.std.proofs.Common.{◌≡◌, ◌+◌, [], length}
use Rattle.p25_example_groups.specs.Printed.{HasPrinted}
use Rattle.p25_example_groups.proofs.print_talks.Given as goal

abbrev pub invariant-loop-item : goal.invariant-loop-item
invariant-loop-item g l = record {
  same : l.scanner.finished ≡ l.initial.scanner.finished;
  bits : l.scanner.place + length l.scanner.held ≡ l.initial.scanner.place + length l.initial.scanner.held;
  printed : HasPrinted [] (g.W.Write.contents l.initial.output) l.initial.scanner (g.W.Write.contents l.output) l.scanner;
}

abbrev pub decreases-loop-item : goal.decreases-loop-item
decreases-loop-item g l = length l.scanner.held
