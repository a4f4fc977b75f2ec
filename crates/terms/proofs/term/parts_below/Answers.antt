-- `terms::term::parts_below` meets its contract: by the shape, as the definition does.
use borrow.Author.Tests.{lt-ltb, le-ltb}
use Rattle.terms.specs.Term.{parts_below}
use Rattle.terms.proofs.Shapes.{none_parts, one_parts}
use Rattle.terms.proofs.term.parts_below.Goals as goal

pub returns-in-Bare : goal.returns-in-Bare
unfolding parts_below
returns-in-Bare c = rw (← c.shape_of.ensures, none_parts _ _ _ _ c.in-Bare.is)

pub returns-in-Sealed : goal.returns-in-Sealed
unfolding parts_below
returns-in-Sealed c = rw (← c.shape_of.ensures, one_parts _ _ _ _ c.in-Sealed.is)

pub returns-in-Applied : goal.returns-in-Applied
unfolding parts_below
returns-in-Applied c = rw (← c.shape_of.ensures, c.in-Applied.is)

pub returns-then-x-label : goal.returns-then-x-label
unfolding parts_below
returns-then-x-label c = rw (← c.shape_of.ensures, c.in-Joined.is, lt-ltb _ _ c.if-x-label.true)

pub returns-else-x-label : goal.returns-else-x-label
unfolding parts_below
returns-else-x-label c = rw (← c.shape_of.ensures, c.in-Joined.is, le-ltb _ _ c.if-x-label.false)
