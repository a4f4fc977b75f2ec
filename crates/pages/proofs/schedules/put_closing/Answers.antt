-- `pages::schedules::put_closing` meets its contract: four parts one after the other.
use Rattle.lines.proofs.Puts.{put_then}
use Rattle.pages.specs.ListText.{closing_line}
use Rattle.pages.proofs.schedules.put_closing.Goals as goal

pub returns-clause-written : goal.returns-clause-written
unfolding closing_line
returns-clause-written c =
    rw (
      put_then,
      put_then,
      put_then,
      ← c.put_word.ensures.written,
      ← c.put_field.ensures.written,
      ← c.put_field-2.ensures.written,
      ← c.put_end.ensures.written,
    )
