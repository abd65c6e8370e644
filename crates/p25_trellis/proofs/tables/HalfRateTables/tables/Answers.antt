use Rattle.p25_trellis.proofs.TablesSteps.{half_are_tables}
use Rattle.p25_trellis.proofs.tables.HalfRateTables.tables.Goals as goal

pub returns : goal.returns
returns c = half_are_tables
