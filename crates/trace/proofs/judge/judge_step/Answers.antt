-- `trace::judge::judge_step` meets its contract: closed already, closed by this event, or one step along the path.
use Rattle.terms.proofs.Laws.{tests}
use Rattle.trace.specs.Judge.{judge_step}
use Rattle.trace.proofs.judge.judge_step.Goals as goal

pub returns-then-j : goal.returns-then-j
unfolding judge_step
returns-then-j c = search (tests, c.if-j.true)

pub returns-then-accepts : goal.returns-then-accepts
unfolding judge_step
returns-then-accepts c =
    search (
      tests,
      c.if-j.false,
      ← c.accepts.ensures,
      c.if-accepts.true,
    )

pub returns-else-accepts : goal.returns-else-accepts
unfolding judge_step
returns-else-accepts c =
    search (
      tests,
      c.if-j.false,
      ← c.accepts.ensures,
      c.if-accepts.false,
      ← c.follow.ensures,
    )
