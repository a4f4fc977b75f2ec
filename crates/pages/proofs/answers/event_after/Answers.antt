-- `pages::answers::event_after` meets its contract: by the answer.
use borrow.Author.Tests.{eq-eqb, ne_eqb}
use Rattle.pages.specs.RunText.{event_after}
use Rattle.pages.proofs.answers.event_after.Goals as goal

pub returns-then-number-eq0 : goal.returns-then-number-eq0
unfolding event_after
returns-then-number-eq0 c = rw (eq-eqb _ _ c.if-number-eq0.true)

pub returns-else-number-eq0 : goal.returns-else-number-eq0
unfolding event_after
returns-else-number-eq0 c = rw (ne_eqb _ _ c.if-number-eq0.false)
