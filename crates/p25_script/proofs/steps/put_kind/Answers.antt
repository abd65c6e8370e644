use Rattle.std.proofs.Common.{codes, decimal, ◌∙◌}
use Rattle.p25_script.specs.StepTexts.{kind_text}
use Rattle.p25_script.proofs.TextSteps.{put-four}
use Rattle.p25_script.proofs.steps.put_kind.Goals as goal

pub returns-in-Resent-clause-text : goal.returns-in-Resent-clause-text
unfolding kind_text
returns-in-Resent-clause-text c =
    rw c.in-Resent.is (c.put_sent.ensures.text ∙ put-four c.args.out.now (codes "timeout sent ns=") (decimal c.in-Resent.number) (codes " try=") (decimal c.in-Resent.tries))

pub returns-in-Idle-clause-text : goal.returns-in-Idle-clause-text
unfolding kind_text
returns-in-Idle-clause-text c = rw c.in-Idle.is c.put-in-Idle.ensures.list

pub returns-in-TimeoutDown-clause-text : goal.returns-in-TimeoutDown-clause-text
unfolding kind_text
returns-in-TimeoutDown-clause-text c = rw c.in-TimeoutDown.is c.put-in-TimeoutDown.ensures.list
