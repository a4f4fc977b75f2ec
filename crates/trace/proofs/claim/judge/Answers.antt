-- `trace::claim::judge` meets its contract: the flat records judged as they lie, or the structs, which is the same.
use Rattle.trace.proofs.Same.{judged_same}
use Rattle.trace.proofs.claim.judge.Goals as goal

pub returns-else-n-gt-ROOM : goal.returns-else-n-gt-ROOM
returns-else-n-gt-ROOM c =
    rw (
      ← (judged_same c.args.records.now c.args.c c.args.n c.if-n-gt-ROOM.false),
      ← c.start.ensures,
      ← c.judge_table.ensures,
      ← c.broken.ensures,
    )
