-- `search::search::bound_fits` meets its contract: the definition's tests.
use native.Mathlib.Omega.{arith}
use borrow.Author.Tests.{eq-eqb, ne_eqb, le-ltb}
use Rattle.search.specs.Search.{bound_fits}
use Rattle.search.proofs.search.bound_fits.Goals as goal

pub returns-then-bound-gt0 : goal.returns-then-bound-gt0
unfolding bound_fits
returns-then-bound-gt0 c = rw (ne_eqb c.args.bound 0 (omega (arith, c.if-bound-gt0.true)))

pub returns-else-bound-gt0 : goal.returns-else-bound-gt0
unfolding bound_fits
returns-else-bound-gt0 c = rw (eq-eqb c.args.bound 0 (omega (arith, c.if-bound-gt0.false)), le-ltb 0 c.args.bound c.if-bound-gt0.false)
