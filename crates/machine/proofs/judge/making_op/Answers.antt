-- `machine::judge::making_op` meets its contract: the two cases of the definition.
use borrow.Author.Tests.{eq-eqb, ne_eqb}
use Rattle.machine.specs.Judge.{making_op}
use Rattle.machine.proofs.judge.making_op.Goals as goal

pub returns-then-kind-eq0 : goal.returns-then-kind-eq0
unfolding making_op
returns-then-kind-eq0 c = rw (eq-eqb _ _ c.if-kind-eq0.true)

pub returns-else-kind-eq0 : goal.returns-else-kind-eq0
unfolding making_op
returns-else-kind-eq0 c = rw (ne_eqb _ _ c.if-kind-eq0.false)
