use Rattle.p25_stream.proofs.ArrivalLaws.{units-whole, unit-found}
use Rattle.p25_stream.proofs.laws.arrival_laws.Goals as goal

pub returns : goal.returns
returns c = record { whole = units-whole; found = unit-found }
