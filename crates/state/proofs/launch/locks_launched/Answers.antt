use mathlib.Core.Path.{refl, sym, ◌∙◌}
use native.Mathlib.Omega.{arith}
use borrow.Author.Rules.{rules}
use Rattle.state.specs.Launch.{lock_launched, locks_launched}
use Rattle.state.proofs.Loops.{each_more, each_end}
use Rattle.state.proofs.launch.locks_launched.Goals as goal

pub loop-i-init : goal.loop-i-init
unfolding locks_launched
loop-i-init c = (refl, search rules)

pub loop-i-preserved : goal.loop-i-preserved
loop-i-preserved c =
    (c.loop-i.invariant.0 ∙ each_more (lock_launched c.args.m c.args.serial) c.loop-i.locks (c.args.locations).now c.loop-i.i 0 (omega arith) ∙ rw (← c.lock_launched.ensures), search rules)

pub returns : goal.returns
returns c =
    sym (c.loop-i.invariant.0 ∙ each_end (lock_launched c.args.m c.args.serial) c.loop-i.locks (c.args.locations).now c.loop-i.i (omega arith))
