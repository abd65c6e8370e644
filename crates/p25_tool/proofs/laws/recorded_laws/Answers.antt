use Rattle.p25_tool.proofs.RecordedLaws.{bridges-units, checks-units, follows-units, relays-itself, relays-units, repaired-recorded, repairs-units, shows-units, units-recorded}
use Rattle.p25_tool.proofs.laws.recorded_laws.Goals as goal

pub returns : goal.returns
returns c = record {
  recorded = units-recorded;
  show = shows-units;
  check = checks-units;
  repair = repairs-units;
  repaired = repaired-recorded;
  bridge = bridges-units;
  relay = relays-units;
  relay_same = relays-itself;
  follow = follows-units;
}
