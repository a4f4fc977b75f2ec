-- `quiet::depths::all_near` meets its contract: the definition asks the same of the same slots.
use Rattle.std.proofs.Common.{rules}
use Rattle.machine.proofs.Ranges.{any_below}
use Rattle.quiet.specs.Quiet.{far_at, all_near}
use Rattle.quiet.proofs.depths.all_near.Goals as goal

pub returns : goal.returns
unfolding all_near
returns c =
    rw (any_below 12 (λ i. far_at c.args.t.now c.args.slots.now c.args.m.now.actions c.args.deep i) _ _ _ c.any.ensures.ran (λ x b q k. search rules))
