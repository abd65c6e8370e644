use Rattle.p25_duplex.proofs.CountLaws.{clean-from_none, none-from_clean}
use Rattle.p25_duplex.proofs.laws.false_passes_are_counted.Goals as goal

pub returns : goal.returns
returns c = record { clean = clean-from_none; none = none-from_clean }
