-- `terms::line::term_at` meets its contract: the line at the label, read.
use Rattle.terms.proofs.line.term_at.Goals as goal

pub returns : goal.returns
returns c = rw (← c.line_at.ensures, ← c.term_in.ensures)
