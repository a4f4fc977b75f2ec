-- `lines::goal::goal_line` meets its contract: the line is cut, then its letter, then its fields.
use Rattle.lines.specs.Goal.{goal_line}
use Rattle.lines.proofs.goal.goal_line.Goals as goal

pub returns-in_err-cut_line : goal.returns-in_err-cut_line
unfolding goal_line
returns-in_err-cut_line c = rw (c.from_residual.ensures, ← c.cut_line.ensures, c.in_err-cut_line.was)

pub returns-then-not-opens_with : goal.returns-then-not-opens_with
unfolding goal_line
returns-then-not-opens_with c =
    rw (
      ← c.cut_line.ensures,
      c.in_ok-cut_line.was,
      ← c.front_of-line.ensures,
      ← c.opens_with.ensures,
      c.if-not-opens_with.true,
    )

pub returns : goal.returns
unfolding goal_line
returns c =
    rw (
      ← c.cut_line.ensures,
      c.in_ok-cut_line.was,
      ← c.front_of-line.ensures,
      ← c.opens_with.ensures,
      c.if-not-opens_with.false,
      ← c.rest_of.ensures,
      ← c.pair_of.ensures,
    )
