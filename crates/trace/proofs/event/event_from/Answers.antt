-- `trace::event::event_from` meets its contract: twelve numbers, each read by its place.
use Rattle.trace.specs.Event.{event_at}
use Rattle.trace.proofs.event.event_from.Goals as goal

pub returns : goal.returns
unfolding event_at
returns c =
    rw (
      ← c.number_at.ensures,
      ← c.number_at-2.ensures,
      ← c.number_at-3.ensures,
      ← c.number_at-4.ensures,
      ← c.number_at-5.ensures,
      ← c.number_at-6.ensures,
      ← c.number_at-7.ensures,
      ← c.number_at-8.ensures,
      ← c.number_at-9.ensures,
      ← c.number_at-10.ensures,
      ← c.number_at-11.ensures,
      ← c.number_at-12.ensures,
    )
