use Rattle.std.proofs.Common.{◌∙◌}
use Rattle.p25_io.specs.Streams.{StreamsGo}
use Rattle.p25_app.proofs.CallSteps.{told}
use Rattle.p25_app.proofs.error_line.tell.Goals as goal

pub returns : goal.returns
returns g c =
    told (StreamsGo g.N.Read.remaining g.E.Write.contents) _ _ _ _ c.write.result (c.octets.ensures ∙ c.put_error_text.ensures) c.write.ensures.ok c.write.ensures.err
