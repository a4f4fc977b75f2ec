-- `lines::codes::next_code` meets its contract: nothing left, no LF, or a line.
use Prim.Native.Nat.{◌+◌, ◌≤◌}
use native.Mathlib.Omega.{arith}
use lib.ListN.{length}
use Rattle.lines.specs.Line.{width_of}
use Rattle.lines.specs.Codes.{next_code}
use Rattle.lines.proofs.Lines.{width_le, code_err}
use Rattle.lines.proofs.codes.next_code.Goals as goal

pub returns-then-is_empty : goal.returns-then-is_empty
unfolding next_code
returns-then-is_empty c = rw (← c.is_empty.ensures, c.if-is_empty.true)

pub returns-in_err-n : goal.returns-in_err-n
unfolding next_code
returns-in_err-n c =
    rw (
      code_err c.from_residual.result c.from_residual.ensures.0,
      ← c.is_empty.ensures,
      c.if-is_empty.false,
      ← c.cut_line.ensures,
      c.in_err-n.ensures.ok_part,
    )

pub overflow_add-n : goal.overflow_add-n
unfolding width_of
overflow_add-n c =
    let h : c.in_ok-n.n + 1 ≤ length c.args.rest.now =
    rw (← c.cut_line.ensures, c.in_ok-n.ensures.ok_part) at (width_le c.args.rest.now) in
    omega arith

pub returns-in_err-code : goal.returns-in_err-code
unfolding next_code
returns-in_err-code c =
    rw (
      code_err c.from_residual-in_err-code.result c.from_residual-in_err-code.ensures.0,
      ← c.is_empty.ensures,
      c.if-is_empty.false,
      ← c.cut_line.ensures,
      c.in_ok-n.ensures.ok_part,
      ← c.front_of.ensures,
      ← c.code_in.ensures,
      c.in_err-code.was,
    )

pub returns : goal.returns
unfolding next_code
returns c =
    rw (
      ← c.is_empty.ensures,
      c.if-is_empty.false,
      ← c.cut_line.ensures,
      c.in_ok-n.ensures.ok_part,
      ← c.front_of.ensures,
      ← c.code_in.ensures,
      c.in_ok-code.was,
    )
