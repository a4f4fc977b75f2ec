-- `lines::field::opens_with` meets its contract: it is std's `starts_with`.
use mathlib.Core.Path.{◌∙◌}
use Rattle.lines.proofs.Laws.{starts_opens}
use Rattle.lines.proofs.field.opens_with.Goals as goal

pub returns : goal.returns
returns c = c.starts_with.ensures.value ∙ starts_opens c.args.s.now c.args.letter
