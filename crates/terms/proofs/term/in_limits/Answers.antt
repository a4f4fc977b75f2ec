-- `terms::term::in_limits` meets its contract: by the shape, as the definition does.
use borrow.Author.Tests.{eq-eqb, ne_eqb, lt-ltb, le-ltb}
use Rattle.terms.specs.Term.{in_limits}
use Rattle.terms.proofs.Shapes.{second_limits, free_limits}
use Rattle.terms.proofs.term.in_limits.Goals as goal

pub returns-then-x-eq0 : goal.returns-then-x-eq0
unfolding in_limits
returns-then-x-eq0 c = rw (← c.shape_of.ensures, c.in-Bare.is, eq-eqb _ _ c.if-x-eq0.true)

pub returns-else-x-eq0 : goal.returns-else-x-eq0
unfolding in_limits
returns-else-x-eq0 c = rw (← c.shape_of.ensures, c.in-Bare.is, ne_eqb _ _ c.if-x-eq0.false)

pub returns-in-Number : goal.returns-in-Number
unfolding in_limits
returns-in-Number c = rw (← c.shape_of.ensures, second_limits _ _ _ c.in-Number.is)

pub returns-then-x-lt-VARIABLES : goal.returns-then-x-lt-VARIABLES
unfolding in_limits
returns-then-x-lt-VARIABLES c = rw (← c.shape_of.ensures, c.in-Variable.is, lt-ltb _ _ c.if-x-lt-VARIABLES.true)

pub returns-else-x-lt-VARIABLES : goal.returns-else-x-lt-VARIABLES
unfolding in_limits
returns-else-x-lt-VARIABLES c = rw (← c.shape_of.ensures, c.in-Variable.is, le-ltb _ _ c.if-x-lt-VARIABLES.false)

pub returns-in-Sealed : goal.returns-in-Sealed
unfolding in_limits
returns-in-Sealed c = rw (← c.shape_of.ensures, free_limits _ _ _ c.in-Sealed.is)

pub returns-in-Applied : goal.returns-in-Applied
unfolding in_limits
returns-in-Applied c = rw (← c.shape_of.ensures, c.in-Applied.is)

pub returns-in-Unknown : goal.returns-in-Unknown
unfolding in_limits
returns-in-Unknown c = rw (← c.shape_of.ensures, c.in-Unknown.is)
