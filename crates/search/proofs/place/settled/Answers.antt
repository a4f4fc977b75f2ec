use mathlib.Core.Path.{refl, sym, ap, ◌∙◌}
use native.Mathlib.Omega.{arith}
use Rattle.search.specs.Place.{settled}
use Rattle.search.proofs.Laws.{done_long, settle_more, settle_end}
use Rattle.search.proofs.place.settled.Goals as goal

pub loop-q-init : goal.loop-q-init
loop-q-init c = refl

pub loop-q-smaller : goal.loop-q-smaller
loop-q-smaller c =
    omega (arith, c.popped-q.ensures.less, done_long c.loop-q.q (sym c.is_done.ensures ∙ c.loop-q-test.true))

pub loop-q-preserved : goal.loop-q-preserved
loop-q-preserved c =
    c.loop-q.invariant ∙ settle_more c.loop-q.q (sym c.is_done.ensures ∙ c.loop-q-test.true) ∙ ap settled (sym c.popped-q.ensures.is)

pub returns : goal.returns
returns c = sym (c.loop-q.invariant ∙ settle_end c.loop-q.q (sym c.is_done.ensures ∙ c.loop-q-test.false))
