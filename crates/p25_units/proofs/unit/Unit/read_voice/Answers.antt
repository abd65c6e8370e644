use Rattle.p25_units.proofs.OutcomeLaws.{voice-wrong}
use Rattle.p25_units.proofs.unit.Unit.read_voice.Goals as goal

pub returns-clause-wrong : goal.returns-clause-wrong
returns-clause-wrong c = voice-wrong c.read_voice_in.result c.self-2.inside.nac c.read_voice_in.new.unit c.args.bare.now c.read_voice_in.ensures.wrong
