-- `terms::subst::plan_at` meets its contract: ground, or by the shape.
use Rattle.terms.specs.Subst.{plan_at}
use Rattle.terms.proofs.Shapes.{leaf_plan, one_plan}
use Rattle.terms.proofs.subst.plan_at.Goals as goal

pub returns-then-ground_in : goal.returns-then-ground_in
unfolding plan_at
returns-then-ground_in c = rw (← c.line_at-n.ensures, ← c.ground_in.ensures, c.if-ground_in.true)

pub returns-in-Bare : goal.returns-in-Bare
unfolding plan_at
returns-in-Bare c =
    rw (← c.line_at-n.ensures, ← c.ground_in.ensures, c.if-ground_in.false, ← c.term_in-x.ensures, ← c.shape_of.ensures, leaf_plan _ _ _ _ _ c.in-Bare.is)

pub returns-in-Variable : goal.returns-in-Variable
unfolding plan_at
returns-in-Variable c =
    rw (← c.line_at-n.ensures, ← c.ground_in.ensures, c.if-ground_in.false, ← c.term_in-x.ensures, ← c.shape_of.ensures, c.in-Variable.is, ← c.value_at.ensures)

pub returns-in-Sealed : goal.returns-in-Sealed
unfolding plan_at
returns-in-Sealed c =
    rw (← c.line_at-n.ensures, ← c.ground_in.ensures, c.if-ground_in.false, ← c.term_in-x.ensures, ← c.shape_of.ensures, one_plan _ _ _ _ _ c.in-Sealed.is)

pub returns-in-Applied : goal.returns-in-Applied
unfolding plan_at
returns-in-Applied c =
    rw (← c.line_at-n.ensures, ← c.ground_in.ensures, c.if-ground_in.false, ← c.term_in-x.ensures, ← c.shape_of.ensures, c.in-Applied.is)

pub returns-in-Joined : goal.returns-in-Joined
unfolding plan_at
returns-in-Joined c =
    rw (← c.line_at-n.ensures, ← c.ground_in.ensures, c.if-ground_in.false, ← c.term_in-x.ensures, ← c.shape_of.ensures, c.in-Joined.is)
