use Rattle.p25_tool.proofs.CallRunsLaws.{call-says}
use Rattle.p25_tool.proofs.laws.run_laws.Goals as goal

pub returns : goal.returns
returns g c words events outcome source source_now sink sink_now read wrote call =
    call-says g.S.Source.left g.S.Source.faults g.K.Sink.written g.K.Sink.faults source source_now sink sink_now events outcome read wrote words call
