-- The records of a run, stood up as structs.
use Rattle.std.specs.Prelude.{ℕ, zero, suc, ◌+◌, List, [], ◌∷◌}
use Rattle.trace.specs.Event.{event_at}
use Rattle.trace.specs.declared.event.Event.{Event}

-- n records of a flat table from i on
unfoldable pub events_from : ℕ → ℕ → List ℕ → List Event
events_from zero i l = []
events_from (suc n) i l = event_at l i ∷ events_from n (i + 1) l

-- "The run program has room for 4,096 events"
unfoldable pub standing : List ℕ → List Event
standing l = events_from 4096 0 l
