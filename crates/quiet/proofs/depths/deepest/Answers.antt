-- `quiet::depths::deepest` meets its contract: the definition compares the same terms, in the same order.
use Rattle.std.proofs.Common.{◌-◌, rules, refl, ◌∙◌}
use Rattle.std.proofs.lemmas.Iterator.{YieldsList-from_range}
use Rattle.std.proofs.lemmas.Iterator.Consumers.{fold_from_yields_List}
use Prim.Native.Nat.{max}
use Rattle.terms.specs.Line.{depth_at}
use Rattle.quiet.specs.Quiet.{deepest}
use Rattle.quiet.proofs.Deepest.{deepest_of}
use Rattle.quiet.proofs.depths.deepest.Goals as goal

pub returns : goal.returns
unfolding deepest
returns c =
    let t = c.args.t.now in
    let n = c.used.result - c.args.from in
    rw (← c.used.ensures.is)
    (fold_from_yields_List _ (λ d i. max d (depth_at t i)) c.args.before _ c.fold.ensures.ran
    (YieldsList-from_range c.args.from c.used.result n refl refl) (λ a x b q k. search rules)
    ∙ deepest_of n t c.args.from c.args.before)
