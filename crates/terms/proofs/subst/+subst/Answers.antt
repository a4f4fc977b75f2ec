-- `terms::subst::subst` meets its contract: one step down the term is `subst_step`; an answer without a label is handed on.
use Rattle.terms.specs.Subst.{with_first, with_second, with_both}
use Rattle.terms.proofs.Laws.{subst_zero, subst_step}
use Rattle.terms.proofs.Answers.{first_handed, second_handed, both_handed, then_handed}
use Rattle.terms.proofs.subst.+subst.Goals as goal

pub returns-then-left-eq0 : goal.returns-then-left-eq0
returns-then-left-eq0 t c =
    rw (subst_zero _ _ _ _ _ _ c.if-left-eq0.true, c.refused.ensures)

pub returns-in-Keep : goal.returns-in-Keep
returns-in-Keep t c =
    rw (subst_step _ _ _ _ _ _ c.if-left-eq0.false, ← c.plan_at.ensures, c.in-Keep.is, c.listed.ensures)

pub returns-in_default : goal.returns-in_default
returns-in_default t c =
    rw (subst_step _ _ _ _ _ _ c.if-left-eq0.false, ← c.plan_at.ensures, c.in-First.is, ← c.subst-r.ensures)
    (first_handed _ _ _ (rw c.in_default.is at c.label.ensures) _)

pub returns-in-Ok : goal.returns-in-Ok
unfolding with_first
returns-in-Ok t c =
    rw (
      subst_step _ _ _ _ _ _ c.if-left-eq0.false,
      ← c.plan_at.ensures,
      c.in-First.is,
      ← c.subst-r.ensures,
      ← c.label.ensures,
      c.in-Ok.is,
      ← c.count.ensures,
      ← c.term_at-x.ensures,
      ← c.entered.ensures,
    )

pub returns-in_default-label : goal.returns-in_default-label
returns-in_default-label t c =
    rw (subst_step _ _ _ _ _ _ c.if-left-eq0.false, ← c.plan_at.ensures, c.in-Second.is, ← c.subst-r-in-Second.ensures)
    (second_handed _ _ _ (rw c.in_default-label.is at c.label-in-Second.ensures) _)

pub returns-in-Ok-label : goal.returns-in-Ok-label
unfolding with_second
returns-in-Ok-label t c =
    rw (
      subst_step _ _ _ _ _ _ c.if-left-eq0.false,
      ← c.plan_at.ensures,
      c.in-Second.is,
      ← c.subst-r-in-Second.ensures,
      ← c.label-in-Second.ensures,
      c.in-Ok-label.is,
      ← c.count-in-Second.ensures,
      ← c.term_at-x-in-Second.ensures,
      ← c.entered-in-Second.ensures,
    )

pub returns-in_default-label-2 : goal.returns-in_default-label-2
returns-in_default-label-2 t c =
    rw (subst_step _ _ _ _ _ _ c.if-left-eq0.false, ← c.plan_at.ensures, c.in-Both.is, ← c.subst-r-in-Both.ensures)
    (then_handed _ _ _ (rw c.in_default-label-2.is at c.label-in-Both.ensures) _ _ _)

pub returns-in_default-label-3 : goal.returns-in_default-label-3
returns-in_default-label-3 t c =
    rw (
      subst_step _ _ _ _ _ _ c.if-left-eq0.false,
      ← c.plan_at.ensures,
      c.in-Both.is,
      ← c.subst-r-in-Both.ensures,
      ← c.label-in-Both.ensures,
      c.in-Ok-label-2.is,
      ← c.count-in-Both.ensures,
      ← c.subst-q.ensures,
    )
    (both_handed _ _ _ (rw c.in_default-label-3.is at c.label-in-Both-2.ensures) _ _)

pub returns-in-Ok-label-3 : goal.returns-in-Ok-label-3
unfolding with_both
returns-in-Ok-label-3 t c =
    rw (
      subst_step _ _ _ _ _ _ c.if-left-eq0.false,
      ← c.plan_at.ensures,
      c.in-Both.is,
      ← c.subst-r-in-Both.ensures,
      ← c.label-in-Both.ensures,
      c.in-Ok-label-2.is,
      ← c.count-in-Both.ensures,
      ← c.subst-q.ensures,
      ← c.label-in-Both-2.ensures,
      c.in-Ok-label-3.is,
      ← c.count-in-Both-2.ensures,
      ← c.term_at-x-in-Both.ensures,
      ← c.entered-in-Both.ensures,
    )
