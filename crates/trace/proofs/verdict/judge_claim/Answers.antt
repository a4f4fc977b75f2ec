use Rattle.std.proofs.Common.{◌≡◌, ℕ, suc, ◌+◌, ◌-◌, ◌<◌, ◌≤◌, List, get_or, refl, sym, ◌∙◌, arith}
use Rattle.trace.specs.Event.{no_event}
use Rattle.trace.specs.Judge.{followed}
use Rattle.trace.specs.Verdict.{verdict_from, verdict_step, follower_of}
use Rattle.trace.specs.declared.event.Event.{Event}
use Rattle.trace.specs.declared.verdict.Verdict.{Verdict}
use Rattle.trace.proofs.verdict.judge_claim.Goals as goal

abbrev stepped : List Event → ℕ → Verdict → Verdict
stepped es i k = verdict_step k (get_or es i no_event) (followed es (follower_of k (get_or es i no_event)))

from_more : (t i : ℕ) (es : List Event) (k : Verdict) → i < t
    → verdict_from (t - i) i es k ≡ verdict_from (t - (i + 1)) (i + 1) es (stepped es i k)
unfolding verdict_from
from_more t i es k h = let e : t - i ≡ suc (t - (i + 1)) = omega arith in rw e refl

from_end : (t i : ℕ) (es : List Event) (k : Verdict) → t ≤ i → verdict_from (t - i) i es k ≡ k
unfolding verdict_from
from_end t i es k h = let e : t - i ≡ 0 = omega arith in rw e refl

pub loop-i-init : goal.loop-i-init
loop-i-init c = let e : c.args.k0.upto - 0 ≡ c.args.k0.upto = omega arith in rw e refl

pub loop-i-preserved : goal.loop-i-preserved
loop-i-preserved c =
    rw (
      c.loop-i.invariant,
      from_more c.args.k0.upto c.loop-i.i c.args.es.now c.loop-i.k c.loop-i-test.true,
      ← c.event_at-e.ensures,
      ← c.follower.ensures,
      ← c.judge_all.ensures,
      ← c.verdict_step-k.ensures,
    )

pub returns : goal.returns
returns c = sym (c.loop-i.invariant ∙ from_end c.args.k0.upto c.loop-i.i c.args.es.now c.loop-i.k c.loop-i-test.false)
