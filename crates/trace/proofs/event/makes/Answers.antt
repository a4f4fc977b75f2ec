-- `trace::event::makes` meets its contract: the numbers of the event, judged by machine's core.
use Rattle.trace.specs.Event.{makes_in}
use Rattle.trace.proofs.event.makes.Goals as goal

pub returns : goal.returns
unfolding makes_in
returns c = c.makes_by.ensures
