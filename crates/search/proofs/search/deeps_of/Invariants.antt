-- `search::search::deeps_of` meets its contract: the loop keeps the depths that are put already and those still to come.
use Rattle.state.specs.declared.control.Control.{Control}
use Rattle.quiet.specs.Quiet.{deepest}
use Rattle.search.proofs.Laws.{Spread}
use Rattle.search.proofs.search.deeps_of.Given as goal

abbrev pub invariant-loop-i : goal.invariant-loop-i
invariant-loop-i l = Spread (λ (s : Control). deepest l.t 0 0 s.count) l.stack l.deeps l.i
