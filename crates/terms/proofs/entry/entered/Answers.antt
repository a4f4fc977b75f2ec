-- `terms::entry::entered` meets its contract: one case for each shape of `grade_of` and `after_parts`.
use Rattle.terms.specs.Term.{after_parts}
use Rattle.terms.specs.Grade.{grade_of}
use Rattle.terms.specs.Entry.{enter_above, enter_above_both}
use Rattle.terms.proofs.Shapes.{leaf_after, leaf_grade, one_after, one_grade}
use Rattle.terms.proofs.Answers.{enter_as}
use Rattle.terms.proofs.entry.entered.Goals as goal

pub returns-in-Variable : goal.returns-in-Variable
unfolding grade_of after_parts
returns-in-Variable c =
    rw (enter_as _ _ _, ← c.shape_of.ensures, c.in-Variable.is, ← c.leaf-in-Variable.ensures) c.graded-in-Variable.ensures

pub returns-in-Applied : goal.returns-in-Applied
unfolding grade_of after_parts enter_above
returns-in-Applied c =
    rw (enter_as _ _ _, ← c.shape_of.ensures, c.in-Applied.is) c.above_one-in-Applied.ensures

pub returns-in-Joined : goal.returns-in-Joined
unfolding grade_of after_parts enter_above_both
returns-in-Joined c =
    rw (enter_as _ _ _, ← c.shape_of.ensures, c.in-Joined.is) c.above_two.ensures

pub returns-in-Bare : goal.returns-in-Bare
unfolding grade_of after_parts
returns-in-Bare c =
    rw (enter_as _ _ _, ← c.shape_of.ensures, leaf_after _ _ _ c.in-Bare.is, leaf_grade _ _ _ _ c.in-Bare.is, ← c.leaf.ensures) c.graded.ensures

pub returns-in-Sealed : goal.returns-in-Sealed
unfolding grade_of after_parts enter_above
returns-in-Sealed c =
    rw (enter_as _ _ _, ← c.shape_of.ensures, one_after _ _ _ c.in-Sealed.is, one_grade _ _ _ _ c.in-Sealed.is) c.above_one.ensures
