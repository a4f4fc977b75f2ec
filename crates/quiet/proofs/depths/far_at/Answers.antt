-- `quiet::depths::far_at` meets its contract: the slot, its next action, and whether that is near.
use Rattle.quiet.specs.Quiet.{far_at}
use Rattle.quiet.proofs.depths.far_at.Goals as goal

pub returns-then-q : goal.returns-then-q
unfolding far_at
returns-then-q c =
    rw (← c.slot_at-q.ensures, ← c.next_action.ensures, ← c.action_near.ensures, c.if-q.true)

pub returns-else-q : goal.returns-else-q
unfolding far_at
returns-else-q c = rw (← c.slot_at-q.ensures, c.if-q.false)
