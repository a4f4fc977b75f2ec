-- `machine::claim::breaks` meets its contract: an accept of the claim's program, and the path not walked.
use Rattle.machine.specs.Judge.{breaks_on}
use Rattle.machine.proofs.claim.breaks.Goals as goal

pub returns-then-accepts : goal.returns-then-accepts
unfolding breaks_on
returns-then-accepts c = rw (← c.accepts.ensures, c.if-accepts.true, ← c.walked.ensures)

pub returns-else-accepts : goal.returns-else-accepts
unfolding breaks_on
returns-else-accepts c = rw (← c.accepts.ensures, c.if-accepts.false)
