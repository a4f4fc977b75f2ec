-- `trace::verdict::follower` meets its contract: with a thread to follow, and without one.
use Rattle.terms.proofs.Laws.{tests}
use Rattle.trace.specs.Verdict.{follower_of}
use Rattle.trace.proofs.verdict.follower.Goals as goal

pub returns-then-wanted : goal.returns-then-wanted
unfolding follower_of
returns-then-wanted c = search (tests, ← c.wanted.ensures, c.if-wanted.true)

pub returns-else-wanted : goal.returns-else-wanted
unfolding follower_of
returns-else-wanted c = search (tests, ← c.wanted.ensures, c.if-wanted.false)
