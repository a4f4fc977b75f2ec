-- `lines::goal::pair_of` meets its contract: one return for each answer of the field reader; a bound up to 24 fits.
use Prim.Native.Nat.{◌≤◌}
use borrow.Author.Rules.{rules}
use borrow.Author.Tests.{eq-eqb, ne_eqb}
use Rattle.lines.specs.Goal.{pair_of}
use Rattle.lines.proofs.Laws.{read_le}
use Rattle.lines.proofs.goal.pair_of.Goals as goal

pub returns-in_err-field : goal.returns-in_err-field
unfolding pair_of
returns-in_err-field c = rw (c.from_residual.ensures, ← c.read_field.ensures, c.in_err-field.was)

pub returns-in_err-next : goal.returns-in_err-next
unfolding pair_of
returns-in_err-next c = rw (c.from_residual-in_err-next.ensures, ← c.read_field.ensures, c.in_ok-field.was, c.in_err-next.was)

pub returns-then-field-eq0 : goal.returns-then-field-eq0
unfolding pair_of
returns-then-field-eq0 c =
    rw (← c.read_field.ensures, c.in_ok-field.was, c.in_ok-next.was, eq-eqb _ _ c.if-field-eq0.true)

pub overflow_cast-field : goal.overflow_cast-field
overflow_cast-field c =
    let h : c.in_ok-field.field.number ≤ 24 = read_le c.in_ok-field.field _ 24 (rw c.in_ok-field.was at c.read_field.ensures) in
    search rules

pub returns : goal.returns
unfolding pair_of
returns c =
    rw (
      ← c.read_field.ensures,
      c.in_ok-field.was,
      c.in_ok-next.was,
      ne_eqb _ _ c.if-field-eq0.false,
      ← c.rest_of.ensures,
      ← c.budget_of.ensures,
    )
