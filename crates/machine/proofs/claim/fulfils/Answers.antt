-- `machine::claim::fulfils` meets its contract: the record makes a thread for the claim, and that thread follows the
-- path.
use Rattle.machine.specs.Judge.{fulfils_at}
use Rattle.machine.proofs.claim.fulfils.Goals as goal

pub returns-then-makes : goal.returns-then-makes
unfolding fulfils_at
returns-then-makes c =
    rw (← c.makes.ensures, c.if-makes.true, ← c.number_at.ensures, ← c.follows.ensures)

pub returns-else-makes : goal.returns-else-makes
unfolding fulfils_at
returns-else-makes c = rw (← c.makes.ensures, c.if-makes.false)
