use Rattle.p25_show.proofs.TablesLaws.{examined-rows, line-rows, packet-rows, voice-rows}
use Rattle.p25_show.proofs.laws.table_laws.Goals as goal

pub returns : goal.returns
returns c = record { voice = voice-rows; packets = packet-rows; examined = examined-rows; lines = line-rows }
