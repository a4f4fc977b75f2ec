-- `lines::tail::width` meets its contract: the callee's two answers; the bounds are what callers add with.
use Prim.Native.Nat.{◌≤◌, ◌+◌}
use mathlib.Core.Path.{◌≡◌}
use native.Mathlib.Omega.{arith}
use lib.ListN.{length}
use borrow.Author.Rules.{rules}
use Rattle.lines.specs.Line.{width_of}
use Rattle.lines.proofs.Lines.{width_le, width_some}
use Rattle.lines.proofs.tail.width.Goals as goal

pub overflow_add-result : goal.overflow_add-result
unfolding width_of
overflow_add-result c =
    let h : c.in-Some.n + 1 ≤ length c.args.rest.now =
    rw (← c.cut_line.ensures, c.in-Some.is) at (width_le c.args.rest.now) in
    omega arith

pub returns-in-Some : goal.returns-in-Some
unfolding width_of
returns-in-Some c =
    let e : c.in-Some.n + 1 ≡ width_of c.args.rest.now = rw (← c.cut_line.ensures, c.in-Some.is) in
    record { is = e; within = rw e (width_le c.args.rest.now); some = λ h. rw e (width_some c.args.rest.now h) }

pub returns-in-None : goal.returns-in-None
unfolding width_of
returns-in-None c =
    let e : length c.args.rest.now ≡ width_of c.args.rest.now = rw (← c.cut_line.ensures, c.in-None.is) in
    record { is = e; within = search rules; some = λ h. h }
