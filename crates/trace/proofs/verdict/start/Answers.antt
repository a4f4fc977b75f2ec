-- `trace::verdict::start` meets its contract.
use Rattle.trace.specs.Verdict.{starting}
use Rattle.trace.proofs.verdict.start.Goals as goal

pub returns : goal.returns
unfolding starting
returns c = rw c.from.ensures
