-- `terms::table::find` meets its contract: too deep, or the callee's answer.
use borrow.Author.Tests.{lt-ltb, le-ltb}
use Rattle.terms.specs.Table.{find_term}
use Rattle.terms.proofs.table.find.Goals as goal

pub returns-then-g-gt-DEPTH : goal.returns-then-g-gt-DEPTH
unfolding find_term
returns-then-g-gt-DEPTH c = rw (← c.grade_of-g.ensures, lt-ltb _ _ c.if-g-gt-DEPTH.true)

pub returns : goal.returns
unfolding find_term
returns c =
    rw (
      ← c.grade_of-g.ensures,
      le-ltb _ _ c.if-g-gt-DEPTH.false,
      ← c.after_parts.ensures,
      ← c.pack.ensures,
      ← c.find_line.ensures,
    )
