use Rattle.std.proofs.Common.{take}
use Rattle.std.specs.Io.KnownBytes.{Appends}
use Rattle.p25_example_exchange.specs.Exchanges.{steps_text}
use Rattle.p25_example_exchange.proofs.print_steps.Given as goal

abbrev pub invariant-loop-i : goal.invariant-loop-i
invariant-loop-i g l = record {
  told : Appends (g.W.Write.contents l.initial.output) (g.W.Write.contents l.output) (steps_text (take l.i l.steps));
}
