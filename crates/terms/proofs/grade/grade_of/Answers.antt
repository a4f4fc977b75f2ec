-- `terms::grade::grade_of` meets its contract: one case for each kind of shape.
use Rattle.terms.specs.Grade.{grade_of}
use Rattle.terms.proofs.Shapes.{leaf_grade, one_grade}
use Rattle.terms.proofs.grade.grade_of.Goals as goal

pub returns-in-Bare : goal.returns-in-Bare
unfolding grade_of
returns-in-Bare c = rw (← c.shape_of.ensures, leaf_grade _ _ _ _ c.in-Bare.is, ← c.leaf.ensures)

pub returns-in-Variable : goal.returns-in-Variable
unfolding grade_of
returns-in-Variable c = rw (← c.shape_of.ensures, c.in-Variable.is, ← c.leaf-in-Variable.ensures)

pub returns-in-Sealed : goal.returns-in-Sealed
unfolding grade_of
returns-in-Sealed c =
    rw (← c.shape_of.ensures, one_grade _ _ _ _ c.in-Sealed.is, ← c.line_at.ensures, ← c.above.ensures)

pub returns-in-Applied : goal.returns-in-Applied
unfolding grade_of
returns-in-Applied c =
    rw (← c.shape_of.ensures, c.in-Applied.is, ← c.line_at-in-Applied.ensures, ← c.above-in-Applied.ensures)

pub returns-in-Joined : goal.returns-in-Joined
unfolding grade_of
returns-in-Joined c =
    rw (
      ← c.shape_of.ensures,
      c.in-Joined.is,
      ← c.line_at-in-Joined.ensures,
      ← c.line_at-in-Joined-2.ensures,
      ← c.above_both.ensures,
    )
