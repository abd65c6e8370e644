use Rattle.std.proofs.lemmas.Result.{IfOk-weaker}
use Rattle.p25_duplex.specs.DuplexRuns.{IsDuplexEvent}
use Rattle.p25_script.specs.DuplexLines.{IsDuplexScripted, duplex_text}
use Rattle.p25_script.proofs.{LineLaws.{line_read-told}, DuplexLineLaws.{duplex_laws, is-event}}
use Rattle.p25_script.proofs.duplex_read.read_duplex_event.Goals as goal

pub returns : goal.returns
unfolding duplex_text
returns c =
    let told = line_read-told duplex_laws c.args.line.now c.read_whole.result c.read_whole.ensures.read in
    let kept = IfOk-weaker c.read_whole.result IsDuplexScripted IsDuplexEvent is-event told.fits in
    record { event = c.read_whole.ensures.read; long = c.read_whole.ensures.long; text = told.text; fits = told.fits; kept = kept; each = told.each }
