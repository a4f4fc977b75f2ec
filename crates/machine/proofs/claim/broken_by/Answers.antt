-- `machine::claim::broken_by` meets its contract: an ending of the claim's program, and the path not walked.
use Rattle.machine.specs.Judge.{broken_by}
use Rattle.machine.proofs.claim.broken_by.Goals as goal

pub returns-then-ends : goal.returns-then-ends
unfolding broken_by
returns-then-ends c = rw (← c.ends.ensures, c.if-ends.true, ← c.walked.ensures)

pub returns-else-ends : goal.returns-else-ends
unfolding broken_by
returns-else-ends c = rw (← c.ends.ensures, c.if-ends.false)
