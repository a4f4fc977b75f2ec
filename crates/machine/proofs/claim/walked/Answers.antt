-- `machine::claim::walked` meets its contract: the definition asks the same of the same numbers.
use Rattle.std.proofs.Common.{rules}
use Rattle.machine.specs.Judge.{fulfils_at, walked_on}
use Rattle.machine.proofs.Ranges.{any_below}
use Rattle.machine.proofs.claim.walked.Goals as goal

pub returns : goal.returns
unfolding walked_on
returns c =
    any_below c.args.n (λ i. fulfils_at c.args.records.now c.args.n i c.args.c) _ _ _ c.any.ensures.ran (λ x b q k. search rules)
