-- `search::place::settled` meets its contract: the loop keeps what the place settles to. The measure is the
-- schedule's length.
use mathlib.Core.Path.{◌≡◌}
use Rattle.search.specs.Place.{settled}
use Rattle.search.proofs.place.settled.Given as goal

abbrev pub invariant-loop-q : goal.invariant-loop-q
invariant-loop-q l = settled l.initial.q ≡ settled l.q

abbrev pub decreases-loop-q : goal.decreases-loop-q
decreases-loop-q l = l.q.length
