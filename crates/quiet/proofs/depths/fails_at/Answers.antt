-- `quiet::depths::fails_at` meets its contract: the slot, its next action, and whether that fits.
use Rattle.quiet.specs.Quiet.{fails_at}
use Rattle.quiet.proofs.depths.fails_at.Goals as goal

pub returns-then-q : goal.returns-then-q
unfolding fails_at
returns-then-q c =
    rw (← c.slot_at-q.ensures, ← c.next_action.ensures, ← c.from.ensures, ← c.action_fits.ensures, c.if-q.true)

pub returns-else-q : goal.returns-else-q
unfolding fails_at
returns-else-q c = rw (← c.slot_at-q.ensures, c.if-q.false)
