use Rattle.p25_io.specs.Streams.{reader_in, writer_in}
use Rattle.p25_show.proofs.CallsLaws.{show-streams}
use Rattle.p25_show.proofs.laws.show_stream_laws.Goals as goal

pub returns : goal.returns
returns g c =
    record {
      says = λ words events outcome first last input before went run named told held.
          let says = c.stream_laws.ensures.says words events outcome first last input before went run told held in
          show-streams words input before (g.R.Read.remaining (reader_in last)) (g.W.Write.contents (writer_in last)) _ _ _ _ outcome named says;
    }
