use Rattle.p25_calls.proofs.{ClosedLaws.{closed-stay}, AnswersLaws.{each-closed, last-open}, DividedLaws.{break-between, no_break-inside, runs-join}, TakingLaws.{answers-are-calls}}
use Rattle.p25_calls.proofs.laws.call_laws.Goals as goal

pub returns : goal.returns
returns c = record {
  join = runs-join;
  inside = no_break-inside;
  between = break-between;
  closed = closed-stay;
  answers = answers-are-calls;
  each = each-closed;
  last = last-open;
}
