-- The claim judged over the events of a lent table: "A step breaks it if it has an accept of v and there isn't an earlier
-- event in which a reset of m (kind 1: a late launch on m) made a thread J whose first jumps, all earlier too, are the path
-- in order." Event by event, each thread made for the claim is followed up to the first accept. That this is machine's
-- judging over the flat records, and the claim's definition, is proved.
use Rattle.std.specs.Prelude.{ℕ, zero, suc, ◌+◌, Bool, true, false, not, List, get_or, eqb}
use Rattle.terms.specs.Base.{pick}
use Rattle.model.specs.declared.records.Claim.{Claim}
use Rattle.state.specs.Control.{one_more}
use Rattle.trace.specs.Event.{no_event, accepts_in, makes_in}
use Rattle.trace.specs.Judge.{judging, followed}
use Rattle.trace.specs.declared.event.Event.{Event}
use Rattle.trace.specs.declared.judge.Judge.{Judge}
use Rattle.trace.specs.declared.verdict.Verdict.{Verdict}

abbrev pub verdict : Claim → ℕ → ℕ → Bool → Bool → Verdict
verdict c upto seen accepted walked = record { claim = c; upto = upto; seen = seen; accepted = accepted; walked = walked }

unfoldable pub starting : ℕ → Claim → Verdict
starting n c = verdict c n 0 false false

-- the event made a thread that is to be followed
unfoldable pub wants : Verdict → Event → Bool
wants k e = pick k.accepted false (pick k.walked false (makes_in e k.claim))

-- it is followed over all events, up to the first accept; where there is none, over no event
unfoldable pub follower_of : Verdict → Event → Judge
follower_of k e = pick (wants k e) (judging k.claim k.upto e.thread 0 false) (judging k.claim 0 0 0 true)

-- one event, j the follower of the thread that it made
unfoldable pub verdict_step : Verdict → Event → Judge → Verdict
verdict_step k e j =
    pick k.accepted k
    (pick (accepts_in e k.claim.program) (verdict k.claim k.upto k.seen true k.walked)
    (pick (wants k e) (verdict k.claim k.upto (one_more k.seen) false (eqb j.at k.claim.length))
    (verdict k.claim k.upto (one_more k.seen) false k.walked)))

-- n events from place i on
unfoldable pub verdict_from : ℕ → ℕ → List Event → Verdict → Verdict
verdict_from zero i es k = k
verdict_from (suc n) i es k = verdict_from n (i + 1) es (verdict_step k (get_or es i no_event) (followed es (follower_of k (get_or es i no_event))))

-- all events that are to be judged
abbrev pub judged : List Event → Verdict → Verdict
judged es k = verdict_from k.upto 0 es k

-- the first accept breaks the claim, unless the path was walked; counted from 1, 0 where none breaks it
unfoldable pub break_in : Verdict → ℕ
break_in k = pick (not k.accepted) 0 (pick k.walked 0 (one_more k.seen))
