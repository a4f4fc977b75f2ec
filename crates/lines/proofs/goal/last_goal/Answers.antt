-- `lines::goal::last_goal` meets its contract: too long, no G line, a good or a bad one; no input that is not too
-- long has lines that do not fit.
use Prim.Native.Nat.{◌≤◌}
use mathlib.Core.Path.{◌≡◌, sym, ◌∙◌}
use borrow.Author.Rules.{rules}
use borrow.Author.Tests.{lt-ltb}
use Rattle.std.specs.Prelude.{Err}
use Rattle.lines.specs.declared.tail.Fault.TheVariants as A
use Rattle.lines.specs.Goal.{last_goal}
use Rattle.lines.proofs.Lines.{goal_none, goal_some, lines_small}
use Rattle.lines.proofs.goal.last_goal.Goals as goal

pub returns-then-s-gt-BYTES : goal.returns-then-s-gt-BYTES
unfolding last_goal
returns-then-s-gt-BYTES c = rw (lt-ltb _ _ c.if-s-gt-BYTES.true)

pub overflow_cast-line : goal.overflow_cast-line
overflow_cast-line c =
    let h : c.tail_of-t.result.lines ≤ 65536 = lines_small _ c.tail_of-t.result c.if-s-gt-BYTES.false 71 c.tail_of-t.ensures in
    search rules

pub overflow_add-result : goal.overflow_add-result
overflow_add-result c =
    let h : c.tail_of-t.result.lines ≤ 65536 = lines_small _ c.tail_of-t.result c.if-s-gt-BYTES.false 71 c.tail_of-t.ensures in
    search rules

pub returns-then-byte_at-ne71 : goal.returns-then-byte_at-ne71
returns-then-byte_at-ne71 c =
    rw (goal_none _ c.tail_of-t.result c.if-s-gt-BYTES.false c.tail_of-t.ensures (λ p. c.if-byte_at-ne71.true (c.byte_at.ensures ∙ p)))

pub returns : goal.returns
returns c =
    rw (
      goal_some _ c.tail_of-t.result c.if-s-gt-BYTES.false c.tail_of-t.ensures (sym c.byte_at.ensures ∙ c.if-byte_at-ne71.false),
      ← c.rest_of.ensures,
      ← c.goal_line.ensures,
      c.in_ok-bound.ensures.ok_part,
    )

pub returns-in_err-bound : goal.returns-in_err-bound
returns-in_err-bound c =
    let e : c.from_residual.result ≡ Err c.in_err-bound.field-0.0 = search rules in
    let v = rw c.in_err-bound.ensures.ok_part at c.in_err-bound.ensures.value in
    let q : c.in_err-bound.field-0.0 ≡ A.Bad c.tail_of-t.result.lines = cc in
    rw (
      e,
      q,
      goal_some _ c.tail_of-t.result c.if-s-gt-BYTES.false c.tail_of-t.ensures (sym c.byte_at.ensures ∙ c.if-byte_at-ne71.false),
      ← c.rest_of.ensures,
      ← c.goal_line.ensures,
      c.in_err-bound.ensures.ok_part,
    )
