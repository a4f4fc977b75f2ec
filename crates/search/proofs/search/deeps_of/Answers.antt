use mathlib.Core.Path.{refl}
use borrow.Author.Rules.{rules}
use Rattle.state.specs.declared.control.Control.{Control}
use Rattle.quiet.specs.Quiet.{deepest}
use Rattle.search.specs.Enter.{no_control}
use Rattle.search.specs.Search.{deeps_of}
use Rattle.search.proofs.Laws.{spread_next, spread_all}
use Rattle.search.proofs.search.deeps_of.Goals as goal

pub loop-i-init : goal.loop-i-init
loop-i-init c = (refl, search rules, search rules, search rules)

pub loop-i-preserved : goal.loop-i-preserved
loop-i-preserved c =
    rw c.deepest.ensures
    (spread_next (λ (s : Control). deepest c.args.t.now 0 0 s.count) c.args.stack.now no_control c.loop-i.deeps c.loop-i.i c.loop-i.invariant (search rules))

pub returns : goal.returns
unfolding deeps_of
returns c =
    spread_all (λ (s : Control). deepest c.args.t.now 0 0 s.count) c.args.stack.now c.loop-i.deeps c.loop-i.i c.loop-i.invariant (search rules)
