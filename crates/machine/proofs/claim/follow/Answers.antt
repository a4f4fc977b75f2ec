-- `machine::claim::follow` meets its contract: three numbers of the record, judged by the core.
use Rattle.machine.specs.Judge.{follow_at}
use Rattle.machine.proofs.claim.follow.Goals as goal

pub returns : goal.returns
unfolding follow_at
returns c =
    rw (
      ← c.number_at-op.ensures,
      ← c.number_at-mover.ensures,
      ← c.number_at-program.ensures,
      ← c.follow_by.ensures,
    )
