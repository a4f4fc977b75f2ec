use Rattle.std.proofs.Common.{◌≤◌}
use Rattle.step_rate.proofs.tries.Given as goal

-- A try permits at most one step.
abbrev pub invariant-loop-i : goal.invariant-loop-i
invariant-loop-i l = l.sum ≤ l.i
