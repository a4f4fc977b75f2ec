-- `search::answer::write_schedule` meets its contract: the length, and then the codes, which are written at once.
use Prim.Native.Nat.{◌+◌, ◌-◌, ◌*◌}
use mathlib.Core.Path.{◌≡◌, sym}
use native.Mathlib.Numerals.{add-one}
use native.Mathlib.Omega.{arith}
use lib.ListN.{length, set, length-set}
use borrow.Author.Rules.{rules}
use borrow.Author.Tests.{lt-ltb, le-ltb}
use Rattle.search.specs.Answer.{schedule_put}
use Rattle.rules.proofs.Loops.{put_sets}
use Rattle.search.proofs.answer.write_schedule.Goals as goal

pub returns-then-room-from : goal.returns-then-room-from
unfolding schedule_put
returns-then-room-from c = rw (lt-ltb _ _ c.if-room-from.true)

pub returns : goal.returns
unfolding schedule_put
returns c =
    let f = c.args.i * 25 in
    let z : f + 25 - (f + 1) ≡ 24 = omega arith in
    let long : length c.args.p.codes ≡ 24 = search rules in
    rw (
      le-ltb _ _ c.if-room-from.false,
      c.copy_from_slice.ensures.after,
      z,
      put_sets (f + 1) (set c.args.room.now f c.args.p.length) 24 c.args.p.codes (sym long) (rw length-set (omega (arith, c.if-room-from.false))),
      add-one,
    )
