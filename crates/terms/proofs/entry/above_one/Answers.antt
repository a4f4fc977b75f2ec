-- `terms::entry::above_one` meets its contract: the line of the part gives the grade.
use Rattle.terms.proofs.Laws.{tests}
use Rattle.terms.specs.Entry.{enter_above}
use Rattle.terms.proofs.entry.above_one.Goals as goal

pub returns : goal.returns
unfolding enter_above
returns c = search (tests, ← c.line_at.ensures, ← c.above-g.ensures, ← c.graded.ensures)
