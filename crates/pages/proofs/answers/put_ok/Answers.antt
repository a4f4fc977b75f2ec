-- `pages::answers::put_ok` meets its contract: five parts one after the other.
use Rattle.lines.proofs.Puts.{put_then}
use Rattle.pages.specs.RunText.{ok_line}
use Rattle.pages.proofs.answers.put_ok.Goals as goal

pub returns-clause-written : goal.returns-clause-written
unfolding ok_line
returns-clause-written c =
    rw (
      put_then,
      put_then,
      put_then,
      put_then,
      ← c.number_at-op.ensures,
      ← c.serial_of-serial.ensures,
      ← c.put_word.ensures.written,
      ← c.from.ensures,
      ← c.put_field.ensures.written,
      ← c.from-2.ensures,
      ← c.put_field-2.ensures.written,
      ← c.from-3.ensures,
      ← c.put_field-3.ensures.written,
      ← c.put_end.ensures.written,
    )
