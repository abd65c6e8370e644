use Rattle.p25_tool.proofs.WholeRecordingsLaws.{follows-recording, relays-recording}
use Rattle.p25_tool.proofs.laws.recording_laws.Goals as goal

pub returns : goal.returns
returns c = record { follow = follows-recording; relay = relays-recording }
