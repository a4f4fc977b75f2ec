-- `lines::put::Page::put_byte` meets its contract: room or none, as in the definition.
use borrow.Author.Tests.{lt-ltb, le-ltb}
use Rattle.lines.specs.Put.{put_byte}
use Rattle.lines.proofs.put.Page.put_byte.Goals as goal

pub returns-then-self-clause-written : goal.returns-then-self-clause-written
unfolding put_byte
returns-then-self-clause-written c = rw (lt-ltb _ _ c.if-self.true)

pub returns-else-self-clause-written : goal.returns-else-self-clause-written
unfolding put_byte
returns-else-self-clause-written c = rw (le-ltb _ _ c.if-self.false)
