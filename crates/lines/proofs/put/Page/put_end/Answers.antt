-- `lines::put::put_end` meets its contract: one byte.
use mathlib.Core.Path.{◌∙◌, sym}
use Rattle.lines.proofs.Puts.{put_one}
use Rattle.lines.proofs.put.Page.put_end.Goals as goal

pub returns-clause-written : goal.returns-clause-written
returns-clause-written c = c.put_byte.ensures.written ∙ sym (put_one _ _)
