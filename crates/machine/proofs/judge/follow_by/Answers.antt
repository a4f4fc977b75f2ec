-- `machine::judge::follow_by` meets its contract: the thread stays where it is, or one step along the path, or leaves it.
use Rattle.std.proofs.Common.{inl, inr}
use native.Mathlib.Omega.{arith}
use borrow.Author.Tests.{lt-leb, eq-eqb, ne_eqb}
use Rattle.terms.proofs.Laws.{tests}
use Rattle.machine.specs.Judge.{follow_by}
use Rattle.machine.proofs.judge.follow_by.Goals as goal

pub returns-then-mover-serial : goal.returns-then-mover-serial
unfolding follow_by
returns-then-mover-serial c =
    elim c.if-mover-serial.either [
      | inl h ↦ search (tests)
      | inr h ↦ elim h [ inl k ↦ search (tests) | inr k ↦ search (tests) ]
    ]

pub returns-then-program-from : goal.returns-then-program-from
unfolding follow_by
returns-then-program-from c =
    let along = c.if-mover-serial.false in
    rw (
      lt-leb _ _ along.0,
      eq-eqb _ _ along.1,
      eq-eqb _ _ along.2,
      ← c.path_at.ensures,
      ← c.from.ensures,
      eq-eqb _ _ c.if-program-from.true,
    ) (omega (arith, along.0))

pub returns-else-program-from : goal.returns-else-program-from
unfolding follow_by
returns-else-program-from c =
    let along = c.if-mover-serial.false in
    rw (
      lt-leb _ _ along.0,
      eq-eqb _ _ along.1,
      eq-eqb _ _ along.2,
      ← c.path_at.ensures,
      ← c.from.ensures,
      ne_eqb _ _ c.if-program-from.false,
    )
