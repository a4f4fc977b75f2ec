use mathlib.Core.Path.{refl, sym, ◌∙◌}
use native.Mathlib.Omega.{arith}
use borrow.Author.Rules.{rules}
use Rattle.rules.specs.Restart.{value_launched, values_launched}
use Rattle.state.proofs.Loops.{each_more, each_end}
use Rattle.rules.proofs.launch.values_launched.Goals as goal

pub loop-i-init : goal.loop-i-init
unfolding values_launched
loop-i-init c = (refl, search rules)

pub loop-i-preserved : goal.loop-i-preserved
loop-i-preserved c = (
  c.loop-i.invariant.0 ∙ each_more (value_launched 2 c.args.m) c.loop-i.values c.args.locations.now c.loop-i.i 0 (omega (arith, c.loop-i.invariant.1, c.loop-i-test.true))
      ∙ rw (← c.value_launched.ensures),
  search rules,
)

pub returns : goal.returns
returns c =
    sym (c.loop-i.invariant.0 ∙ each_end (value_launched 2 c.args.m) c.loop-i.values c.args.locations.now c.loop-i.i (omega (arith, c.loop-i.invariant.1, c.loop-i-test.false)))
