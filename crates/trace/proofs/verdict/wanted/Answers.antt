-- `trace::verdict::wanted` meets its contract: the tests of the definition, in its order.
use Rattle.std.proofs.Common.{sym, ◌∙◌, arith}
use borrow.Author.Tests.{not-true, not-false}
use Rattle.trace.specs.Verdict.{wants}
use Rattle.trace.proofs.verdict.wanted.Goals as goal
use Rattle.trace.proofs.verdict.wanted.Goals.{then-not-k, else-not-k}

pub returns-then-not-k-2 : goal.returns-then-not-k-2
unfolding wants
returns-then-not-k-2 c =
    elim c.if-not-k.branch [
      | then-not-k w ↦ rw (w.if-not-k.true, not-true _ (sym w.value-is ∙ c.if-not-k-2.true), ← c.makes.ensures)
      | else-not-k w ↦ grind arith
    ]

pub returns-else-not-k-2 : goal.returns-else-not-k-2
unfolding wants
returns-else-not-k-2 c =
    elim c.if-not-k.branch [
      | then-not-k w ↦ rw (c.if-not-k-2.false, w.if-not-k.true, not-false _ (sym w.value-is ∙ c.if-not-k-2.false))
      | else-not-k w ↦ rw (c.if-not-k-2.false, w.if-not-k.false)
    ]
