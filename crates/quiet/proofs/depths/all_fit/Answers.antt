-- `quiet::depths::all_fit` meets its contract: the definition asks the same of the same slots.
use Rattle.std.proofs.Common.{rules}
use Rattle.machine.proofs.Ranges.{any_below}
use Rattle.quiet.specs.Quiet.{fails_at, all_fit}
use Rattle.quiet.proofs.depths.all_fit.Goals as goal

pub returns : goal.returns
unfolding all_fit
returns c =
    let s = c.args.s.now in
    rw (any_below 12 (λ i. fails_at c.args.t.now s.frame.slots s.values s.vars c.args.m.now.actions i) _ _ _ c.any.ensures.ran (λ x b q k. search rules))
