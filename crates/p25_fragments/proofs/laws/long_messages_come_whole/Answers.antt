use Rattle.p25_fragments.specs.LongState.{first_long}
use Rattle.p25_fragments.proofs.{LongRunLaws.{long-orderly, long-unrefused}, InnerRunLaws.{inner-run}, MarksLaws.{long-marked}, OrderLaws.{run-whole}}
use Rattle.p25_fragments.proofs.laws.long_messages_come_whole.Goals as goal

pub returns : goal.returns
returns c = record { inner = inner-run first_long; unrefused = long-unrefused; sessions = long-orderly; marks = long-marked; whole = run-whole }
