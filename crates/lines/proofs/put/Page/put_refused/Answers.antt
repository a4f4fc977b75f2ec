-- `lines::put::Page::put_refused` meets its contract: four parts one after the other.
use Rattle.lines.specs.Put.{refused_line}
use Rattle.lines.proofs.Puts.{put_then}
use Rattle.lines.proofs.put.Page.put_refused.Goals as goal

pub returns-clause-written : goal.returns-clause-written
unfolding refused_line
returns-clause-written c =
    rw (
      put_then,
      put_then,
      put_then,
      ← c.put_word.ensures.written,
      ← c.from.ensures,
      ← c.put_field.ensures.written,
      ← c.put_field-2.ensures.written,
      ← c.put_end.ensures.written,
    )
