use Rattle.p25_fragments.proofs.LongHistoryLaws.{long-clean, long-none}
use Rattle.p25_fragments.proofs.laws.long_false_passes_are_counted.Goals as goal

pub returns : goal.returns
returns c = record { clean = long-clean; none = long-none }
