-- `machine::claim::makes` meets its contract: two numbers of the record, judged by the core.
use Rattle.machine.specs.Judge.{makes_at}
use Rattle.machine.proofs.claim.makes.Goals as goal

pub returns : goal.returns
unfolding makes_at
returns c =
    rw (
      ← c.number_at-op.ensures,
      ← c.number_at-machine.ensures,
      ← c.makes_by.ensures,
    )
