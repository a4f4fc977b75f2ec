-- `lines::tail::with_line` meets its contract: the one test of the definition.
use Rattle.lines.specs.Tail.{tail_with}
use Rattle.lines.proofs.tail.with_line.Goals as goal

pub returns-then-same : goal.returns-then-same
unfolding tail_with
returns-then-same c = rw c.if-same.true

pub returns-else-same : goal.returns-else-same
unfolding tail_with
returns-else-same c = rw c.if-same.false
