-- `terms::subst::take_operands` meets its contract: what came of both walks, and the table cut back where that is a refusal.
use mathlib.Core.Path.{◌≡◌}
use Rattle.terms.specs.Subst.{take_operands}
use Rattle.terms.specs.declared.table.Size.TheVariants as Z
use Rattle.terms.proofs.subst.take_operands.Goals as goal

pub returns-in-Ok : goal.returns-in-Ok
unfolding take_operands
returns-in-Ok c = rw (← c.take_both-walked.ensures, c.in-Ok.is)

pub returns-in-Err-Deep : goal.returns-in-Err-Deep
unfolding take_operands
returns-in-Err-Deep c =
    let deep : c.in-Err-Deep.field-0 ≡ Z.Deep = rw c.in-Err-Deep.is at c.in-Err-Deep.field-0-is in
    rw (← c.take_both-walked.ensures, c.in-Err-Deep.is, deep, ← c.cut.ensures)

pub returns-in-Err-Full : goal.returns-in-Err-Full
unfolding take_operands
returns-in-Err-Full c =
    let full : c.in-Err-Full.field-0 ≡ Z.Full = rw c.in-Err-Full.is at c.in-Err-Full.field-0-is in
    rw (
      ← c.take_both-walked.ensures,
      c.in-Err-Full.is,
      full,
      ← c.cut-in-Err-Full.ensures,
      ← c.deep_or_full.ensures,
    )
