-- The record of an event as a struct, and what one event says of a claim: what machine says of its numbers.
use Rattle.std.specs.Prelude.{ℕ, Bool, List}
use Rattle.model.specs.declared.records.Claim.{Claim}
use Rattle.rules.specs.Event.{number_at}
use Rattle.machine.specs.Judge.{accepts_by, makes_by, follow_by}
use Rattle.trace.specs.declared.event.Event.{Event}

abbrev pub event : ℕ → ℕ → ℕ → ℕ → ℕ → ℕ → ℕ → ℕ → ℕ → ℕ → ℕ → ℕ → Event
event op serial loc x y result program machine thread endings first second = record {
  op = op;
  serial = serial;
  loc = loc;
  x = x;
  y = y;
  result = result;
  program = program;
  machine = machine;
  thread = thread;
  endings = endings;
  first = first;
  second = second;
}

abbrev pub no_event : Event
no_event = event 0 0 0 0 0 0 0 0 0 0 0 0

-- record i of a flat table
unfoldable pub event_at : List ℕ → ℕ → Event
event_at l i =
    event (number_at l i 0) (number_at l i 1) (number_at l i 2) (number_at l i 3) (number_at l i 4) (number_at l i 5)
    (number_at l i 6) (number_at l i 7) (number_at l i 8) (number_at l i 9) (number_at l i 10) (number_at l i 11)

-- the event has an accept of program v
unfoldable pub accepts_in : Event → ℕ → Bool
accepts_in e v = accepts_by e.endings e.first e.second v

-- it makes a thread for the claim
unfoldable pub makes_in : Event → Claim → Bool
makes_in e c = makes_by e.op e.machine c

-- how far along the path thread j is after it, k before it
unfoldable pub follow_in : Event → ℕ → Claim → ℕ → ℕ
follow_in e j c k = follow_by e.op e.serial e.program j c k
