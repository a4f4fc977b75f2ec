use mathlib.Core.Path.{refl, sym, ◌∙◌}
use native.Mathlib.Omega.{arith}
use borrow.Author.Rules.{rules}
use Rattle.rules.specs.Restart.{value_reset, values_reset}
use Rattle.state.proofs.Loops.{each_more, each_end}
use Rattle.rules.proofs.reset.values_reset.Goals as goal

pub loop-i-init : goal.loop-i-init
unfolding values_reset
loop-i-init c = (refl, search rules)

pub loop-i-preserved : goal.loop-i-preserved
loop-i-preserved c = (
  c.loop-i.invariant.0 ∙ each_more (value_reset 0 1 c.args.m) c.loop-i.values c.args.locations.now c.loop-i.i 0 (omega (arith, c.loop-i.invariant.1, c.loop-i-test.true))
      ∙ rw (← c.value_reset.ensures),
  search rules,
)

pub returns : goal.returns
returns c =
    sym (c.loop-i.invariant.0 ∙ each_end (value_reset 0 1 c.args.m) c.loop-i.values c.args.locations.now c.loop-i.i (omega (arith, c.loop-i.invariant.1, c.loop-i-test.false)))
