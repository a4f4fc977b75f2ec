-- `lines::codes::last_codes` meets its contract: too long, all good, or a bad one, whose number fits.
use Prim.Native.Nat.{◌≤◌}
use mathlib.Core.Path.{sym, ◌∙◌}
use native.Mathlib.Omega.{arith}
use lib.ListN.{length, length-drop}
use borrow.Author.Tests.{lt-ltb}
use Rattle.std.proofs.Common.{rules}
use Rattle.lines.specs.Codes.{last_codes}
use Rattle.lines.proofs.Lines.{codes_end, bad_small, before_small}
use Rattle.lines.proofs.codes.last_codes.Goals as goal

pub returns-then-s-gt-BYTES : goal.returns-then-s-gt-BYTES
unfolding last_codes
returns-then-s-gt-BYTES c = rw (lt-ltb _ _ c.if-s-gt-BYTES.true)

pub returns-in-None : goal.returns-in-None
returns-in-None c =
    rw (
      codes_end _ c.tail_of-t.result c.if-s-gt-BYTES.false c.tail_of-t.ensures,
      ← c.rest_of.ensures,
      ← c.first_bad_line.ensures,
      c.in-None.is,
    )

pub returns-in-Some : goal.returns-in-Some
returns-in-Some c =
    rw (
      codes_end _ c.tail_of-t.result c.if-s-gt-BYTES.false c.tail_of-t.ensures,
      ← c.rest_of.ensures,
      ← c.first_bad_line.ensures,
      c.in-Some.is,
    )

pub overflow_add-line : goal.overflow_add-line
overflow_add-line c =
    let l : length c.rest_of.result.now ≤ 65536 = rw (c.rest_of.ensures, length-drop c.tail_of-t.result.start c.args.s.now) (omega arith) in
    let i : c.in-Some.i ≤ 65536 = bad_small c.rest_of.result.now c.in-Some.i (sym c.first_bad_line.ensures ∙ c.in-Some.is) l in
    let b : c.tail_of-t.result.before ≤ 65536 = before_small _ c.tail_of-t.result c.if-s-gt-BYTES.false 82 c.tail_of-t.ensures in
    search rules

pub overflow_add-line-in-Some : goal.overflow_add-line-in-Some
overflow_add-line-in-Some c =
    let l : length c.rest_of.result.now ≤ 65536 = rw (c.rest_of.ensures, length-drop c.tail_of-t.result.start c.args.s.now) (omega arith) in
    let i : c.in-Some.i ≤ 65536 = bad_small c.rest_of.result.now c.in-Some.i (sym c.first_bad_line.ensures ∙ c.in-Some.is) l in
    let b : c.tail_of-t.result.before ≤ 65536 = before_small _ c.tail_of-t.result c.if-s-gt-BYTES.false 82 c.tail_of-t.ensures in
    search rules

pub overflow_cast-result : goal.overflow_cast-result
overflow_cast-result c =
    let l : length c.rest_of.result.now ≤ 65536 = rw (c.rest_of.ensures, length-drop c.tail_of-t.result.start c.args.s.now) (omega arith) in
    let i : c.in-Some.i ≤ 65536 = bad_small c.rest_of.result.now c.in-Some.i (sym c.first_bad_line.ensures ∙ c.in-Some.is) l in
    let b : c.tail_of-t.result.before ≤ 65536 = before_small _ c.tail_of-t.result c.if-s-gt-BYTES.false 82 c.tail_of-t.ensures in
    search rules
