use Rattle.p25_c.proofs.StreamCallsLaws.{streams-all, streams-first}
use Rattle.p25_c.proofs.laws.stream_laws.Goals as goal

pub returns : goal.returns
returns c = record { first = streams-first; all = streams-all }
