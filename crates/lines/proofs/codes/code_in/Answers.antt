-- `lines::codes::code_in` meets its contract: the letter, then the one field, which ends the line; a code fits.
use Prim.Native.Nat.{◌≤◌}
use Rattle.std.proofs.Common.{rules}
use Rattle.lines.specs.Codes.{code_in}
use Rattle.lines.proofs.Laws.{read_le}
use Rattle.lines.proofs.Lines.{line_err}
use Rattle.lines.proofs.codes.code_in.Goals as goal

pub returns-then-not-opens_with : goal.returns-then-not-opens_with
unfolding code_in
returns-then-not-opens_with c = rw (← c.opens_with.ensures, c.if-not-opens_with.true)

pub returns-in_err-field : goal.returns-in_err-field
unfolding code_in
returns-in_err-field c =
    rw (
      line_err c.from_residual.result c.from_residual.ensures.0,
      ← c.opens_with.ensures,
      c.if-not-opens_with.false,
      ← c.rest_of.ensures,
      ← c.read_field.ensures,
      c.in_err-field.ensures.ok_part,
    )

pub overflow_cast-result : goal.overflow_cast-result
overflow_cast-result c =
    let h : c.in_ok-field.field.number ≤ 65535 = read_le c.in_ok-field.field _ 65535 (rw c.in_ok-field.ensures.ok_part at c.read_field.ensures) in
    search (rules, h)

pub returns-in-None : goal.returns-in-None
unfolding code_in
returns-in-None c =
    rw (
      ← c.opens_with.ensures,
      c.if-not-opens_with.false,
      ← c.rest_of.ensures,
      ← c.read_field.ensures,
      c.in_ok-field.ensures.ok_part,
      c.in-None.is,
    )

pub returns-in-Some : goal.returns-in-Some
unfolding code_in
returns-in-Some c =
    rw (
      ← c.opens_with.ensures,
      c.if-not-opens_with.false,
      ← c.rest_of.ensures,
      ← c.read_field.ensures,
      c.in_ok-field.ensures.ok_part,
      c.in-Some.is,
    )
