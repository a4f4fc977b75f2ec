-- `trace::verdict::verdict_step` meets its contract: accepted already, accepted by this event, with a thread that was
-- followed, and without one.
use Rattle.terms.proofs.Laws.{tests}
use Rattle.trace.specs.Verdict.{verdict_step}
use Rattle.trace.proofs.verdict.verdict_step.Goals as goal

pub returns-then-k : goal.returns-then-k
unfolding verdict_step
returns-then-k c = search (tests, c.if-k.true)

pub returns-then-accepts : goal.returns-then-accepts
unfolding verdict_step
returns-then-accepts c =
    search (
      tests,
      c.if-k.false,
      ← c.accepts.ensures,
      c.if-accepts.true,
    )

pub returns-then-wanted : goal.returns-then-wanted
unfolding verdict_step
returns-then-wanted c =
    simp (
      c.if-k.false,
      ← c.accepts.ensures,
      c.if-accepts.false,
      ← c.wanted.ensures,
      c.if-wanted.true,
      ← c.one_more.ensures,
    )

pub returns-else-wanted : goal.returns-else-wanted
unfolding verdict_step
returns-else-wanted c =
    simp (
      c.if-k.false,
      ← c.accepts.ensures,
      c.if-accepts.false,
      ← c.wanted.ensures,
      c.if-wanted.false,
      ← c.one_more-else-wanted.ensures,
    )
