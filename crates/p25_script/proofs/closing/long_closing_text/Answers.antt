use Rattle.p25_script.specs.LongTexts.{long_closing_text_of}
use Rattle.p25_script.proofs.closing.long_closing_text.Goals as goal

pub returns-clause-text : goal.returns-clause-text
unfolding long_closing_text_of
returns-clause-text c =
    rw (
      c.put_sessions.ensures.text,
      c.sessions.ensures,
      c.inner-2.ensures,
      c.put_labelled-4.ensures.text,
      c.false_passes.ensures,
      c.inner.ensures,
      c.put_labelled-3.ensures.text,
      c.acknowledged.ensures,
      c.put_labelled-2.ensures.text,
      c.len-2.ensures,
      c.whole.ensures,
      c.put_labelled.ensures.text,
      c.len.ensures,
      c.taken.ensures,
      c.clear.ensures,
    )
