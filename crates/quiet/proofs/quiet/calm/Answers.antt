-- `quiet::quiet::calm` meets its contract: whether there is room, then whether anybody stands.
use borrow.Author.Tests.{le-ltb, lt-ltb, lt-leb}
use Rattle.quiet.specs.Quiet.{calm}
use Rattle.quiet.proofs.quiet.calm.Goals as goal

pub returns-then-from-le511 : goal.returns-then-from-le511
unfolding calm
returns-then-from-le511 c =
    rw (← c.from.ensures, ← c.from-2.ensures, le-ltb _ _ c.if-from-le511.true, ← c.nobody_stands.ensures)

pub returns-else-from-le511 : goal.returns-else-from-le511
unfolding calm
returns-else-from-le511 c =
    rw (← c.from.ensures, ← c.from-2.ensures, lt-ltb _ _ c.if-from-le511.false, lt-leb _ _ c.if-from-le511.false)
