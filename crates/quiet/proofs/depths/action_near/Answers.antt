-- `quiet::depths::action_near` meets its contract: the depths of both operands, in the order of the definition.
use borrow.Author.Tests.{le-ltb, lt-ltb, lt-leb}
use Rattle.quiet.specs.Quiet.{action_near}
use Rattle.quiet.proofs.depths.action_near.Goals as goal

pub returns-then-from-room-le-DEPTH : goal.returns-then-from-room-le-DEPTH
unfolding action_near
returns-then-from-room-le-DEPTH c =
    rw (
      ← c.depth_at.ensures,
      ← c.from.ensures,
      ← c.from-room.ensures,
      le-ltb _ _ c.if-from-room-le-DEPTH.true,
      ← c.depth_at-then-from-room-le-DEPTH.ensures,
      ← c.from-then-from-room-le-DEPTH.ensures,
    )

pub returns-else-from-room-le-DEPTH : goal.returns-else-from-room-le-DEPTH
unfolding action_near
returns-else-from-room-le-DEPTH c =
    rw (
      ← c.depth_at.ensures,
      ← c.from.ensures,
      ← c.from-room.ensures,
      lt-ltb _ _ c.if-from-room-le-DEPTH.false,
      lt-leb _ _ c.if-from-room-le-DEPTH.false,
    )
