-- `terms::line::depth_at` meets its contract: the line at the label, read.
use Rattle.terms.proofs.line.depth_at.Goals as goal

pub returns : goal.returns
returns c = rw (← c.line_at.ensures, ← c.depth_in.ensures)
