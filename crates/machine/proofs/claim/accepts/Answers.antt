-- `machine::claim::accepts` meets its contract: three numbers of the record, judged by the core.
use Rattle.machine.specs.Judge.{accepts_at}
use Rattle.machine.proofs.claim.accepts.Goals as goal

pub returns : goal.returns
unfolding accepts_at
returns c =
    rw (
      ← c.number_at-endings.ensures,
      ← c.number_at-first.ensures,
      ← c.number_at-second.ensures,
      ← c.accepts_by.ensures,
    )
