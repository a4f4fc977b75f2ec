use mathlib.Core.Path.{◌∙◌, refl}
use native.Mathlib.Omega.{arith}
use Rattle.terms.specs.Table.{used_of, cut_to}
use Rattle.terms.proofs.Laws.{fill_more, fill_end}
use Rattle.terms.proofs.table.cut.Goals as goal

pub loop-i-init : goal.loop-i-init
unfolding cut_to
loop-i-init c = refl

pub loop-i-preserved : goal.loop-i-preserved
loop-i-preserved c =
    rw c.from.ensures (c.loop-i.invariant ∙ fill_more 0 _ c.loop-i.i c.loop-i.t (omega (arith, c.used-i-end.ensures.is)))

pub returns : goal.returns
returns c =
    rw (c.loop-i.invariant, fill_end 0 (used_of c.args.count) c.loop-i.i c.loop-i.t (omega (arith, c.used-i-end.ensures.is)))
