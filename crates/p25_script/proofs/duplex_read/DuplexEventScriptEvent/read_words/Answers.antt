use Rattle.std.proofs.Common.{sym}
use Rattle.p25_script.proofs.DuplexReadSteps.{wrong-start}
use Rattle.p25_script.proofs.duplex_read.DuplexEventScriptEvent.read_words.Goals as goal

pub returns-in_default : goal.returns-in_default
returns-in_default c = sym (wrong-start c.args.words.now c.first.result.now c.first.ensures (sym c.in_default.ensures))
