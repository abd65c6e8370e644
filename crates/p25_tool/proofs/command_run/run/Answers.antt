use Rattle.std.proofs.Common.{rules}
use Rattle.p25_filter.proofs.WentLaws.{SinkGoes-later, SourceGoes-later}
use Rattle.p25_tool.proofs.CallRunsLaws.{call-says}
use Rattle.p25_tool.proofs.command_run.run.Goals as goal

pub returns : goal.returns
returns g c =
    let went = c.run_on.ensures.called in record {
      says =
          call-says g.S.Source.left g.S.Source.faults g.K.Sink.written g.K.Sink.faults _ _ _ _ went.0 c.run_on.result (search rules) (search rules)
          c.args.words.now went.2;
      source_later = SourceGoes-later g.S.Source.left g.S.Source.faults _ _ went.0 (search rules);
      sink_later = SinkGoes-later g.K.Sink.written g.K.Sink.faults _ _ went.0 (search rules);
    }
