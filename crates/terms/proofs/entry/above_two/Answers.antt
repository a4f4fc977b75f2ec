-- `terms::entry::above_two` meets its contract: the lines of both parts give the grade, the later part where to look.
use Rattle.terms.specs.Entry.{enter_above_both}
use Rattle.terms.proofs.Laws.{larger_max}
use Rattle.terms.proofs.entry.above_two.Goals as goal

pub returns : goal.returns
unfolding enter_above_both
returns c =
    rw (
      ← c.line_at.ensures,
      ← c.line_at-2.ensures,
      ← c.above_both-g.ensures,
      ← larger_max _ _,
      ← c.max.ensures,
      ← c.graded.ensures,
    )
