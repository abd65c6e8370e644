use Rattle.p25_tool.proofs.FoundLaws.{repair-keeps_length, repairs-each_unit, shows-each_unit}
use Rattle.p25_tool.proofs.laws.found_laws.Goals as goal

pub returns : goal.returns
returns c = record { show = shows-each_unit; repair = repairs-each_unit; length = repair-keeps_length }
