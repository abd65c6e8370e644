use Rattle.p25_script.specs.LongScript.{long_event_text}
use Rattle.p25_script.proofs.{LineLaws.{line_read-told}, LongScriptLaws.{long_event_laws}}
use Rattle.p25_script.proofs.long_read.read_long_event.Goals as goal

pub returns : goal.returns
unfolding long_event_text
returns c =
    let told = line_read-told long_event_laws c.args.line.now c.read_whole.result c.read_whole.ensures.read in
    record { event = c.read_whole.ensures.read; long = c.read_whole.ensures.long; text = told.text; fits = told.fits; each = told.each }
