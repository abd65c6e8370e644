use Rattle.p25_trellis.proofs.TablesSteps.{three_quarter_are_tables}
use Rattle.p25_trellis.proofs.tables.ThreeQuarterRateTables.tables.Goals as goal

pub returns : goal.returns
returns c = three_quarter_are_tables
