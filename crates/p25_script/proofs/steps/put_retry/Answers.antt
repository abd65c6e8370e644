use Rattle.std.proofs.Common.{codes, decimal}
use Rattle.p25_line.specs.CommaLists.{comma_text}
use Rattle.p25_script.specs.StepTexts.{kind_text, serials_of}
use Rattle.p25_script.proofs.TextSteps.{put-six}
use Rattle.p25_script.proofs.steps.put_retry.Goals as goal

pub returns-clause-text : goal.returns-clause-text
unfolding kind_text
returns-clause-text c =
    rw (c.put_labelled-2.ensures.text, c.from-2.ensures, c.put_serials.ensures.text, c.put.ensures.list, c.put_labelled.ensures.text, c.from.ensures)
    (put-six c.args.out.now (codes "answer retry ns=") (decimal c.args.number) (codes " blocks=") (comma_text decimal (serials_of c.args.wanted.now)) (codes " try=") (decimal c.args.tries))
