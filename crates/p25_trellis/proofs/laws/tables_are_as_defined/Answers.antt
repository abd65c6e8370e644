use Rattle.std.proofs.Common.{refl}
use Rattle.p25_trellis.specs.Tables.{point_nibbles, half_rows, three_quarter_rows}
use Rattle.p25_trellis.proofs.laws.tables_are_as_defined.Goals as goal

pub returns : goal.returns
unfolding point_nibbles half_rows three_quarter_rows
returns c = record { half = refl; three_quarter = refl }
