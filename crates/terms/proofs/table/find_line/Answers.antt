use mathlib.Core.Path.{refl, ◌∙◌, sym}
use native.Mathlib.Omega.{arith}
use Rattle.terms.specs.Table.{find_line}
use Rattle.terms.proofs.Laws.{used_long, find_hit, find_miss, find_end}
use Rattle.terms.proofs.table.find_line.Goals as goal

pub loop-i-init : goal.loop-i-init
unfolding find_line
loop-i-init c = refl

pub returns-then-t-from : goal.returns-then-t-from
returns-then-t-from c =
    let long = c.used-i-end.ensures.is ∙ sym (used_long _ _ c.told-t) in
    rw (c.loop-i.invariant, find_hit c.args.t.now c.args.count c.args.n c.loop-i.i (omega (arith, long)) (rw c.from.ensures at c.if-t-from.true))

pub loop-i-preserved : goal.loop-i-preserved
loop-i-preserved c =
    let long = c.used-i-end.ensures.is ∙ sym (used_long _ _ c.told-t) in
    c.loop-i.invariant ∙ find_miss c.args.t.now c.args.count c.args.n c.loop-i.i (omega (arith, long)) (rw c.from.ensures at c.if-t-from.false)

pub returns : goal.returns
returns c =
    let long = c.used-i-end.ensures.is ∙ sym (used_long _ _ c.told-t) in
    rw (c.loop-i.invariant, find_end c.args.t.now c.args.count c.args.n c.loop-i.i (omega (arith, long)))
