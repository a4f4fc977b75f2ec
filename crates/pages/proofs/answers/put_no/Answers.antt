-- `pages::answers::put_no` meets its contract: four parts one after the other.
use Rattle.lines.proofs.Puts.{put_then}
use Rattle.pages.specs.RunText.{no_line}
use Rattle.pages.proofs.answers.put_no.Goals as goal

pub returns-clause-written : goal.returns-clause-written
unfolding no_line
returns-clause-written c =
    rw (
      put_then,
      put_then,
      put_then,
      ← c.put_word.ensures.written,
      ← c.from.ensures,
      ← c.put_field.ensures.written,
      ← c.from-2.ensures,
      ← c.put_field-2.ensures.written,
      ← c.put_end.ensures.written,
    )
