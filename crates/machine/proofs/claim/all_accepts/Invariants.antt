-- `machine::claim::all_accepts` meets its contract: the loop keeps that the sum of all is what has been added and
-- what is still to come.
use Prim.Native.Nat.{◌+◌, ◌*◌, ◌-◌, ◌≤◌}
use mathlib.Core.Path.{◌≡◌}
use Rattle.rules.specs.Event.{number_at}
use Rattle.machine.specs.Judge.{sum_from, accepts_on}
use Rattle.machine.proofs.claim.all_accepts.Given as goal

abbrev pub invariant-loop-i : goal.invariant-loop-i
invariant-loop-i l = (accepts_on l.records l.n ≡ l.sum + sum_from (l.n - l.i) l.i (λ k. number_at l.records k 9)) × (l.sum ≤ l.i * 65535)
