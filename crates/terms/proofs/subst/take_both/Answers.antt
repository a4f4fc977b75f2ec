-- `terms::subst::take_both` meets its contract: both substitutions, as in the definition.
use Rattle.terms.specs.Subst.{take_both}
use Rattle.terms.proofs.Answers.{operands_size}
use Rattle.terms.proofs.subst.take_both.Goals as goal

pub returns-in-Ok : goal.returns-in-Ok
unfolding take_both
returns-in-Ok c =
    rw (← c.subst-p.ensures, ← c.label.ensures, c.in-Ok.is, ← c.count.ensures, ← c.subst-q.ensures, ← c.second_operand.ensures)

pub returns-in-Err : goal.returns-in-Err
unfolding take_both
returns-in-Err c =
    rw (← c.subst-p.ensures, ← c.label.ensures, c.in-Err.is, operands_size, ← c.count-in-Err.ensures)
