-- `search::enter::enter` meets its contract: the loop keeps what entering all steps gives.
use Prim.Native.Nat.{◌-◌, ◌≤◌}
use mathlib.Core.Path.{◌≡◌}
use lib.ListN.{length}
use Rattle.search.specs.Enter.{climb, enter_in, enter_on}
use Rattle.search.proofs.enter.enter.Given as goal

abbrev pub invariant-loop-i : goal.invariant-loop-i
invariant-loop-i l =
    (enter_on l.initial.t l.initial.records l.m l.p ≡ enter_in (l.p.length - l.i) l.m l.p l.i (climb l.stack l.place l.t l.records))
    × (length l.records ≡ length l.initial.records) × (length l.stack ≡ 25) × (l.i ≤ l.p.length) × (l.i-end ≡ l.p.length)
