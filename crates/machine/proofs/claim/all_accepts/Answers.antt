use native.Mathlib.Nat.{sub-zero, zero-add, add-zero, add_assoc}
use borrow.Author.Rules.{rules}
use Rattle.machine.specs.Judge.{accepts_on}
use Rattle.machine.proofs.Loops.{sum_more, sum_end}
use Rattle.machine.proofs.claim.all_accepts.Goals as goal

pub loop-i-init : goal.loop-i-init
unfolding accepts_on
loop-i-init c = (rw (sub-zero, zero-add), search rules)

pub loop-i-preserved : goal.loop-i-preserved
loop-i-preserved c = (
  rw (c.loop-i.invariant.0, sum_more _ c.loop-i.i _ c.loop-i-test.true, c.from-sum.ensures, ← c.number_at.ensures, add_assoc),
  search rules,
)

pub returns : goal.returns
returns c =
    rw (c.loop-i.invariant.0, sum_end _ c.loop-i.i _ c.loop-i-test.false, add-zero)
