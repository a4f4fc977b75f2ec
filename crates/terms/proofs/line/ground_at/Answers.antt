-- `terms::line::ground_at` meets its contract: the line at the label, read.
use Rattle.terms.proofs.line.ground_at.Goals as goal

pub returns : goal.returns
returns c = rw (← c.line_at.ensures, ← c.ground_in.ensures)
