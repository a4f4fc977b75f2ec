-- `trace::event::accepts` meets its contract: the numbers of the event, judged by machine's core.
use Rattle.trace.specs.Event.{accepts_in}
use Rattle.trace.proofs.event.accepts.Goals as goal

pub returns : goal.returns
unfolding accepts_in
returns c = c.accepts_by.ensures
