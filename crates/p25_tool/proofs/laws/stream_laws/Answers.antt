use Rattle.p25_tool.proofs.StreamRunsLaws.{streams-ended, streams-known, streams-say}
use Rattle.p25_tool.proofs.laws.stream_laws.Goals as goal

pub returns : goal.returns
returns g c = record {
  known = streams-known g.R.Read.remaining g.W.Write.contents;
  says = λ words events outcome first last input held went call told holds.
      streams-say g.R.Read.remaining g.W.Write.contents words events outcome first last went call input held told holds;
  ended = λ words events outcome first last input held went call told holds.
      streams-ended g.R.Read.remaining g.W.Write.contents words events outcome first last went call input held told holds;
}
