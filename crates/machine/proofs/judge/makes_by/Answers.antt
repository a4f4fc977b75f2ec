-- `machine::judge::makes_by` meets its contract: op and machine, in the definition's order.
use Rattle.terms.proofs.Laws.{tests}
use Rattle.machine.specs.Judge.{makes_by}
use Rattle.machine.proofs.judge.makes_by.Goals as goal

pub returns-then-op-making_op : goal.returns-then-op-making_op
unfolding makes_by
returns-then-op-making_op c = search (tests, c.from.ensures, ← c.making_op.ensures)

pub returns-else-op-making_op : goal.returns-else-op-making_op
unfolding makes_by
returns-else-op-making_op c = search (tests, ← c.making_op.ensures)
