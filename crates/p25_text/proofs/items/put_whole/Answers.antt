use Rattle.p25_text.specs.ItemTexts.{item_text_of}
use Rattle.p25_text.proofs.items.put_whole.Goals as goal

pub returns-clause-text : goal.returns-clause-text
unfolding item_text_of
returns-clause-text c =
    rw (
      c.put_unit.ensures.text,
      c.put-2.ensures.list,
      c.put_statuses.ensures.text,
      c.put.ensures.list,
      c.put_labelled-3.ensures.text,
      c.from.ensures,
      c.put_labelled-2.ensures.text,
      c.frame_length.ensures.value,
      c.put_labelled.ensures.text,
      c.requires,
    )
