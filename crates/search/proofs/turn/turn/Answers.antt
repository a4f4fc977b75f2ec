-- `search::turn::turn` meets its contract: the definition's cases, in the code's order.
use borrow.Author.Tests.{lt-ltb, le-ltb, le-leb, lt-leb, eq-eqb, ne_eqb}
use Rattle.search.specs.Turn.{turn_on}
use Rattle.search.proofs.turn.turn.Goals as goal

pub returns-then-p-ge-NONE : goal.returns-then-p-ge-NONE
unfolding turn_on
returns-then-p-ge-NONE c =
    rw (c.still.ensures, le-leb _ _ c.if-p-ge-NONE.true, ← c.closed.ensures)

pub returns-then-w-passed : goal.returns-then-w-passed
unfolding turn_on
returns-then-w-passed c =
    rw (
      c.still-then-w-passed.ensures,
      lt-leb _ _ c.if-p-ge-NONE.false,
      ← c.seek-code.ensures,
      ← c.between-passed.ensures,
      lt-ltb _ _ c.if-w-passed.true,
      ← c.reached.ensures,
      ← c.at_code-q.ensures,
      ← c.closed-then-w-passed.ensures,
    )

pub returns-then-code-ge-NONE : goal.returns-then-code-ge-NONE
unfolding turn_on
returns-then-code-ge-NONE c =
    rw (
      c.still-then-code-ge-NONE.ensures,
      lt-leb _ _ c.if-p-ge-NONE.false,
      ← c.seek-code.ensures,
      ← c.between-passed.ensures,
      le-ltb _ _ c.if-w-passed.false,
      le-leb _ _ c.if-code-ge-NONE.true,
      ← c.past.ensures,
    )

pub returns-then-w-passed-2 : goal.returns-then-w-passed-2
unfolding turn_on
returns-then-w-passed-2 c =
    rw (
      c.still-then-w-passed-2.ensures,
      lt-leb _ _ c.if-p-ge-NONE.false,
      ← c.seek-code.ensures,
      ← c.between-passed.ensures,
      le-ltb _ _ c.if-w-passed.false,
      lt-leb _ _ c.if-code-ge-NONE.false,
      eq-eqb _ _ c.if-w-passed-2.true,
      ← c.at_code.ensures,
      ← c.closed-then-w-passed-2.ensures,
    )

pub returns-then-broken_by : goal.returns-then-broken_by
unfolding turn_on
returns-then-broken_by c =
    let broken = rw c.from.ensures at c.broken_by.ensures in
    rw (
      c.still-then-broken_by.ensures,
      lt-leb _ _ c.if-p-ge-NONE.false,
      ← c.seek-code.ensures,
      ← c.between-passed.ensures,
      le-ltb _ _ c.if-w-passed.false,
      lt-leb _ _ c.if-code-ge-NONE.false,
      ne_eqb _ _ c.if-w-passed-2.false,
      ← c.cut.ensures,
      ← c.code_after.ensures.is,
      ← c.past-v.ensures,
      ← c.work.ensures,
      c.in-Ok.is,
      ← c.ended_by-e.ensures,
      ← broken,
      c.if-broken_by.true,
      ← c.pushed.ensures,
      ← c.found.ensures,
    )

pub returns-in-Err : goal.returns-in-Err
unfolding turn_on
returns-in-Err c =
    rw (
      c.still-in-Err.ensures,
      lt-leb _ _ c.if-p-ge-NONE.false,
      ← c.seek-code.ensures,
      ← c.between-passed.ensures,
      le-ltb _ _ c.if-w-passed.false,
      lt-leb _ _ c.if-code-ge-NONE.false,
      ne_eqb _ _ c.if-w-passed-2.false,
      ← c.cut.ensures,
      ← c.code_after.ensures.is,
      ← c.past-v.ensures,
      ← c.work.ensures,
      c.in-Err.is,
      ← c.refused_by.ensures,
    )

pub returns-else-broken_by : goal.returns-else-broken_by
unfolding turn_on
returns-else-broken_by c =
    let broken = rw c.from.ensures at c.broken_by.ensures in
    rw (
      lt-leb _ _ c.if-p-ge-NONE.false,
      ← c.seek-code.ensures,
      ← c.between-passed.ensures,
      le-ltb _ _ c.if-w-passed.false,
      lt-leb _ _ c.if-code-ge-NONE.false,
      ne_eqb _ _ c.if-w-passed-2.false,
      ← c.cut.ensures,
      ← c.code_after.ensures.is,
      ← c.past-v.ensures,
      ← c.work.ensures,
      c.in-Ok.is,
      ← c.ended_by-e.ensures,
      ← broken,
      c.if-broken_by.false,
      ← c.entering.ensures,
    )
