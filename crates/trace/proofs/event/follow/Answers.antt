-- `trace::event::follow` meets its contract: the numbers of the event, judged by machine's core.
use Rattle.trace.specs.Event.{follow_in}
use Rattle.trace.proofs.event.follow.Goals as goal

pub returns : goal.returns
unfolding follow_in
returns c = c.follow_by.ensures
