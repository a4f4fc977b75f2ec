-- `quiet::quiet::shallow` meets its contract: it is the definition's sum.
use Rattle.quiet.specs.Quiet.{shallow}
use Rattle.quiet.proofs.quiet.shallow.Goals as goal

pub returns : goal.returns
unfolding shallow
returns c = rw (c.from.ensures, c.from-2.ensures)
