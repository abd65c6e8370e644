use Rattle.p25_tool.proofs.WrittenLaws.{all-written}
use Rattle.p25_tool.proofs.laws.written_laws.Goals as goal

pub returns : goal.returns
returns c = record { all = all-written }
