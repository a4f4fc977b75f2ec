-- One thread followed over the events of a lent table.
use Rattle.std.specs.Prelude.{ℕ, zero, suc, ◌+◌, Bool, true, false, List, get_or}
use Rattle.terms.specs.Base.{pick}
use Rattle.model.specs.declared.records.Claim.{Claim}
use Rattle.trace.specs.Event.{no_event, accepts_in, follow_in}
use Rattle.trace.specs.declared.event.Event.{Event}
use Rattle.trace.specs.declared.judge.Judge.{Judge}

abbrev pub judging : Claim → ℕ → ℕ → ℕ → Bool → Judge
judging c upto serial at closed = record { claim = c; upto = upto; serial = serial; at = at; closed = closed }

-- one event; an accept of the claim's program closes the judging, for what comes after it isn't earlier
unfoldable pub judge_step : Judge → Event → Judge
judge_step j e =
    pick j.closed j
    (pick (accepts_in e j.claim.program) (judging j.claim j.upto j.serial j.at true)
    (judging j.claim j.upto j.serial (follow_in e j.serial j.claim j.at) false))

-- n events from place i on
unfoldable pub judge_from : ℕ → ℕ → List Event → Judge → Judge
judge_from zero i es j = j
judge_from (suc n) i es j = judge_from n (i + 1) es (judge_step j (get_or es i no_event))

-- all events that are to be judged
abbrev pub followed : List Event → Judge → Judge
followed es j = judge_from j.upto 0 es j
