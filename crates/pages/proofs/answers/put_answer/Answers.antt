-- `pages::answers::put_answer` meets its contract: by the answer.
use borrow.Author.Tests.{eq-eqb, ne_eqb}
use Rattle.pages.specs.RunText.{answer_line}
use Rattle.pages.proofs.answers.put_answer.Goals as goal

pub returns-then-number-eq0-clause-written : goal.returns-then-number-eq0-clause-written
unfolding answer_line
returns-then-number-eq0-clause-written c = rw (eq-eqb _ _ c.if-number-eq0.true, ← c.put_ok.ensures.written)

pub returns-else-number-eq0-clause-written : goal.returns-else-number-eq0-clause-written
unfolding answer_line
returns-else-number-eq0-clause-written c = rw (ne_eqb _ _ c.if-number-eq0.false, ← c.put_no.ensures.written)
