-- `rules::event::write_record` meets its contract: the record's part of the table is written anew.
use Prim.Native.Nat.{◌+◌, ◌-◌, ◌*◌}
use mathlib.Core.Path.{◌≡◌, sym}
use native.Mathlib.Omega.{arith}
use borrow.Author.Tests.{lt-ltb, le-ltb}
use Rattle.rules.specs.Event.{record_put}
use Rattle.rules.proofs.Loops.{put_sets}
use Rattle.rules.proofs.event.write_record.Goals as goal

pub returns-then-end-records : goal.returns-then-end-records
unfolding record_put
returns-then-end-records c =
    let i = c.from-from.result * 12 in
    let z : i + 12 - i ≡ 12 = omega arith in
    rw (
      ← c.from-from.ensures,
      le-ltb _ _ c.if-end-records.true,
      c.copy_from_slice.ensures.after,
      z,
      put_sets i c.args.records.now 12 c.args.r.now.numbers (sym c.told-r) c.if-end-records.true,
    )

pub returns-else-end-records : goal.returns-else-end-records
unfolding record_put
returns-else-end-records c = rw (← c.from-from.ensures, lt-ltb _ _ c.if-end-records.false)
