use Rattle.std.proofs.Common.{◌≤◌}
use Rattle.find_rate.proofs.main.Given as goal

-- A lookup finds at most one term.
abbrev pub invariant-loop-i : goal.invariant-loop-i
invariant-loop-i l = l.found ≤ l.i
