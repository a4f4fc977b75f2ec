-- `pages::answers::put_done` meets its contract: five parts one after the other.
use Rattle.lines.proofs.Puts.{put_then}
use Rattle.pages.specs.RunText.{done_line}
use Rattle.pages.proofs.answers.put_done.Goals as goal

pub returns-clause-written : goal.returns-clause-written
unfolding done_line
returns-clause-written c =
    rw (
      put_then,
      put_then,
      put_then,
      put_then,
      ← c.put_word.ensures.written,
      ← c.from.ensures,
      ← c.put_field.ensures.written,
      ← c.put_field-2.ensures.written,
      ← c.from-2.ensures,
      ← c.put_field-3.ensures.written,
      ← c.put_end.ensures.written,
    )
