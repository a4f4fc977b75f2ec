-- `lines::put::Page::put_field` meets its contract: a blank, then the decimal.
use Rattle.lines.specs.Put.{blank_and}
use Rattle.lines.proofs.Puts.{put_cons}
use Rattle.lines.proofs.put.Page.put_field.Goals as goal

pub returns-clause-written : goal.returns-clause-written
unfolding blank_and
returns-clause-written c =
    rw (put_cons, ← c.put_byte.ensures.written, ← c.put_decimal.ensures.written)
