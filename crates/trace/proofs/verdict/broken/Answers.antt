-- `trace::verdict::broken` meets its contract: the number of the accept, or no accept or a path that was walked.
use borrow.Author.Tests.{not-true, not-false}
use Rattle.trace.specs.Verdict.{break_in}
use Rattle.trace.proofs.verdict.broken.Goals as goal
use Rattle.trace.proofs.verdict.broken.Goals.{else-k-via-then-k+else-not-k, else-k-via-else-k}

pub returns-then-not-k : goal.returns-then-not-k
unfolding break_in
returns-then-not-k c = rw (c.if-k.true, not-true _ c.if-not-k.true, ← c.one_more.ensures)

pub returns-else-k : goal.returns-else-k
unfolding break_in
returns-else-k c =
    elim c.else-k.branch [
      | else-k-via-then-k+else-not-k w ↦ rw (w.if-k.true, not-false _ w.if-not-k.false)
      | else-k-via-else-k w ↦ rw w.if-k.false
    ]
