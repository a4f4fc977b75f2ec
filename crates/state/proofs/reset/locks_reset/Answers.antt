use mathlib.Core.Path.{refl, sym, ◌∙◌}
use native.Mathlib.Omega.{arith}
use borrow.Author.Rules.{rules}
use Rattle.state.specs.Reset.{lock_reset, locks_reset}
use Rattle.state.proofs.Loops.{each_more, each_end}
use Rattle.state.proofs.reset.locks_reset.Goals as goal

pub loop-i-init : goal.loop-i-init
unfolding locks_reset
loop-i-init c = (refl, search rules)

pub loop-i-preserved : goal.loop-i-preserved
loop-i-preserved c =
    (c.loop-i.invariant.0 ∙ each_more (lock_reset c.args.m c.args.protected c.args.serial) c.loop-i.locks (c.args.locations).now c.loop-i.i 0 (omega arith) ∙ rw (← c.lock_reset.ensures), search rules)

pub returns : goal.returns
returns c =
    sym (c.loop-i.invariant.0 ∙ each_end (lock_reset c.args.m c.args.protected c.args.serial) c.loop-i.locks (c.args.locations).now c.loop-i.i (omega arith))
