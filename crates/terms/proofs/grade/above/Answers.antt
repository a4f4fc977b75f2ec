-- `terms::grade::above` meets its contract: the callees' answers put into the definition.
use Rattle.terms.specs.Grade.{above_line}
use Rattle.terms.proofs.grade.above.Goals as goal

pub returns : goal.returns
unfolding above_line
returns c = rw (c.from.ensures, ← c.depth_in.ensures, ← c.ground_in.ensures)
