use Rattle.p25_tool.proofs.BuiltLaws.{accepted-read, builds-units, lines-texts}
use Rattle.p25_tool.proofs.laws.built_laws.Goals as goal

pub returns : goal.returns
returns c = record { build = builds-units; texts = lines-texts; accepted = accepted-read }
