use Prim.Native.Nat.{◌<◌, ◌-◌, ◌≤◌}
use mathlib.Core.Path.{◌≡◌, sym, ap, ◌∙◌}
use native.Mathlib.Omega.{arith}
use lib.ListN.{length, length-drop}
use borrow.Author.Rules.{rules}
use Rattle.lines.proofs.Lines.{go_start, go_more, go_end}
use Rattle.lines.proofs.tail.tail_of.Goals as goal

pub loop-at-init : goal.loop-at-init
loop-at-init c = (rw (c.empty-t.ensures, go_start), search rules, search rules)

pub loop-at-smaller : goal.loop-at-smaller
loop-at-smaller c =
    let e : length c.rest_of.result.now ≡ length c.args.s.now - c.loop-at.at =
    ap length c.rest_of.ensures ∙ length-drop c.loop-at.at c.args.s.now in
    let k : 0 < c.width.result = c.width.ensures.some (omega arith) in
    let h : c.width.result ≤ length c.args.s.now - c.loop-at.at = rw e at c.width.ensures.within in
    omega arith

pub loop-at-preserved : goal.loop-at-preserved
loop-at-preserved c =
    let e : length c.rest_of.result.now ≡ length c.args.s.now - c.loop-at.at =
    ap length c.rest_of.ensures ∙ length-drop c.loop-at.at c.args.s.now in
    let k : 0 < c.width.result = c.width.ensures.some (omega arith) in
    let h : c.width.result ≤ length c.args.s.now - c.loop-at.at = rw e at c.width.ensures.within in (
      rw (
        c.loop-at.invariant.0,
        go_more _ c.args.s.now c.loop-at.t c.loop-at.at c.loop-at.lines c.loop-at-test.true,
        ← c.rest_of.ensures,
        ← c.width.ensures.is,
        ← c.byte_at.ensures,
        ← c.with_line-t.ensures,
      ),
      omega arith,
      omega arith,
    )

pub returns : goal.returns
returns c = sym (c.loop-at.invariant.0 ∙ go_end _ _ c.loop-at.t c.loop-at.at c.loop-at.lines c.loop-at-test.false)
