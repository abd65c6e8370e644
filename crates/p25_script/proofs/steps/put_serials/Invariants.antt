use Rattle.std.proofs.Common.{◌≡◌, ◌+◌, ◌*◌, ◌≤◌, ◌++◌, length, decimal}
use Rattle.p25_bits.specs.Numbers.{joined_below}
use Rattle.p25_line.specs.CommaLists.{comma_text}
use Rattle.p25_script.specs.StepTexts.{serial_at}
use Rattle.p25_script.proofs.TextSteps.{stands}
use Rattle.p25_script.proofs.steps.put_serials.Given as goal

abbrev pub invariant-loop-serial : goal.invariant-loop-serial
invariant-loop-serial l = record {
  text : l.out ≡ l.initial.out ++ comma_text decimal (joined_below l.serial (serial_at l.wanted));
  behind : l.behind ≡ stands (joined_below l.serial (serial_at l.wanted));
  short : length l.out ≤ length l.initial.out + 4 * l.serial;
}
