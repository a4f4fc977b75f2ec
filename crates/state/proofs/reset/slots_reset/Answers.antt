use mathlib.Core.Path.{refl, sym, ◌∙◌}
use native.Mathlib.Omega.{arith}
use borrow.Author.Rules.{rules}
use Rattle.state.specs.Reset.{slot_reset, slots_reset}
use Rattle.state.proofs.Loops.{map_more, map_end}
use Rattle.state.proofs.reset.slots_reset.Goals as goal

pub loop-n-init : goal.loop-n-init
unfolding slots_reset
loop-n-init c = (refl, search rules, search rules)

pub loop-n-preserved : goal.loop-n-preserved
loop-n-preserved c =
    (c.loop-n.invariant.0 ∙ map_more (slot_reset c.args.m) c.loop-n.slots c.loop-n.n-index 0 (omega arith) ∙ rw (← c.slot_reset.ensures), search rules, search rules)

pub returns : goal.returns
returns c =
    sym (c.loop-n.invariant.0 ∙ map_end (slot_reset c.args.m) c.loop-n.slots c.loop-n.n-index (omega arith))
