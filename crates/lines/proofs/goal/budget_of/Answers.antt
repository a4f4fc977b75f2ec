-- `lines::goal::budget_of` meets its contract: one return for each answer of the field reader.
use Rattle.lines.specs.Goal.{budget_of}
use Rattle.lines.proofs.goal.budget_of.Goals as goal

pub returns-in_err-field : goal.returns-in_err-field
unfolding budget_of
returns-in_err-field c = rw (c.from_residual.ensures, ← c.read_field.ensures, c.in_err-field.was)

pub returns-in-None : goal.returns-in-None
unfolding budget_of
returns-in-None c = rw (← c.read_field.ensures, c.in_ok-field.was, c.in-None.is)

pub returns-in-Some : goal.returns-in-Some
unfolding budget_of
returns-in-Some c = rw (← c.read_field.ensures, c.in_ok-field.was, c.in-Some.is)
