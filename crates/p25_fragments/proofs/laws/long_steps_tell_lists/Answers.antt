use Rattle.std.proofs.Common.{arith}
use Rattle.p25_fragments.specs.LongState.{first_long}
use Rattle.p25_fragments.proofs.LongListsLaws.{run-whole, run-taken, run-finished}
use Rattle.p25_fragments.proofs.laws.long_steps_tell_lists.Goals as goal

pub returns : goal.returns
returns c = record {
  whole = λ events. run-whole events first_long;
  taken = λ events. run-taken events first_long;
  acknowledged = λ events. omega (arith, run-finished events first_long);
}
