use Rattle.p25_script.specs.Script.{event_text}
use Rattle.p25_script.proofs.{LineLaws.{line_read-told}, ScriptLaws.{event_laws}}
use Rattle.p25_script.proofs.read.read_event.Goals as goal

pub returns : goal.returns
unfolding event_text
returns c =
    let told = line_read-told event_laws c.args.line.now c.read_whole.result c.read_whole.ensures.read in
    record { event = c.read_whole.ensures.read; long = c.read_whole.ensures.long; text = told.text; fits = told.fits; each = told.each }
