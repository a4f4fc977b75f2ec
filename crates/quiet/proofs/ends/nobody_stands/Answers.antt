-- `quiet::ends::nobody_stands` meets its contract: the definition asks the same of the same twelve numbers.
use Rattle.std.proofs.Common.{rules}
use Rattle.machine.proofs.Ranges.{any_listed}
use Rattle.quiet.specs.Quiet.{stands_in, nobody_stands}
use Rattle.quiet.proofs.ends.nobody_stands.Goals as goal

pub returns : goal.returns
unfolding nobody_stands
returns c =
    rw (any_listed c.args.slots.now 12 (λ n. stands_in c.args.m.now.lengths c.args.program n) _ _ _ _ c.any.ensures.ran
    (cc) (search rules) (λ x b q k. search rules))
