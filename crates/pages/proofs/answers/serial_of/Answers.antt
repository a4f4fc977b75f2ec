-- `pages::answers::serial_of` meets its contract: by the op.
use borrow.Author.Tests.{eq-eqb, ne_eqb}
use Rattle.pages.specs.RunText.{serial_of}
use Rattle.pages.proofs.answers.serial_of.Goals as goal

pub returns-then-op-eq21 : goal.returns-then-op-eq21
unfolding serial_of
returns-then-op-eq21 c = rw (eq-eqb _ _ c.if-op-eq21.true, ← c.number_at.ensures)

pub returns-else-op-eq21 : goal.returns-else-op-eq21
unfolding serial_of
returns-else-op-eq21 c = rw (ne_eqb _ _ c.if-op-eq21.false, ← c.number_at-else-op-eq21.ensures)
