-- `search::search::walk` meets its contract: the loop keeps what the walk comes to. The measure is the turns that it can still
-- take: every turn spends of the budget or closes the walk.
use mathlib.Core.Path.{◌≡◌}
use lib.ListN.{length}
use Rattle.search.specs.Search.{scene, walk_on}
use Rattle.search.proofs.Falls.{turns_left}
use Rattle.search.proofs.search.walk.Given as goal

abbrev pub invariant-loop-w : goal.invariant-loop-w
invariant-loop-w l =
    (walk_on l.m l.k (scene l.initial.w l.initial.stack l.initial.deeps l.initial.t l.initial.records l.initial.room)
    ≡ walk_on l.m l.k (scene l.w l.stack l.deeps l.t l.records l.room))
    × (length l.records ≡ length l.initial.records) × (length l.room ≡ length l.initial.room)

abbrev pub decreases-loop-w : goal.decreases-loop-w
decreases-loop-w l = turns_left l.w
