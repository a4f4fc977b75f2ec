-- `terms::subst::second_operand` meets its contract: a label, or why there is none.
use Rattle.terms.specs.Subst.{second_operand}
use Rattle.terms.proofs.Answers.{taken_size}
use Rattle.terms.proofs.subst.second_operand.Goals as goal
use Rattle.terms.proofs.subst.second_operand.Goals.{in-Ok, in-Err}

pub returns : goal.returns
unfolding second_operand
returns c =
    elim c.match-label.branch [
      | in-Ok w ↦ rw (w.labels-is, ← c.label.ensures, w.in-Ok.is, ← c.count.ensures)
      | in-Err w ↦ rw (w.labels-is, ← c.label.ensures, w.in-Err.is, taken_size, ← c.count.ensures)
    ]
