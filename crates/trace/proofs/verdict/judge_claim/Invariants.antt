-- `trace::verdict::judge_claim` meets its contract: the loop keeps that judging from the first event on gives what
-- judging from event i on gives.
use Rattle.std.proofs.Common.{◌≡◌, ◌-◌}
use Rattle.trace.specs.Verdict.{judged, verdict_from}
use Rattle.trace.proofs.verdict.judge_claim.Given as goal

abbrev pub invariant-loop-i : goal.invariant-loop-i
invariant-loop-i l = judged l.es l.fn.k0 ≡ verdict_from (l.i-end - l.i) l.i l.es l.k
