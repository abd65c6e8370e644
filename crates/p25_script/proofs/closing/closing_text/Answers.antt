use Rattle.p25_script.specs.StepTexts.{closing_text_of}
use Rattle.p25_script.proofs.closing.closing_text.Goals as goal

pub returns-clause-text : goal.returns-clause-text
unfolding closing_text_of
returns-clause-text c =
    rw (
      c.put_sessions.ensures.text,
      c.sessions.ensures,
      c.put_labelled-4.ensures.text,
      c.false_passes.ensures,
      c.put_labelled-3.ensures.text,
      c.acknowledged.ensures,
      c.put_labelled-2.ensures.text,
      c.len-2.ensures,
      c.delivered.ensures,
      c.put_labelled.ensures.text,
      c.len.ensures,
      c.sent.ensures,
      c.clear.ensures,
    )
