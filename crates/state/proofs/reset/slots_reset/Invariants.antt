-- `state::reset::slots_reset` meets its contract: the loop keeps that the whole is what stands already and what is still to come.
use Prim.Native.Nat.{◌≤◌}
use mathlib.Core.List.{◌++◌, map}
use mathlib.Core.Path.{◌≡◌}
use lib.ListN.{length, take, drop}
use Rattle.state.specs.Reset.{slot_reset, slots_reset}
use Rattle.state.proofs.reset.slots_reset.Given as goal

abbrev pub invariant-loop-n : goal.invariant-loop-n
invariant-loop-n l =
    (slots_reset l.initial.slots l.m ≡ take l.n-index l.slots ++ map (slot_reset l.m) (drop l.n-index l.slots)) × (length l.slots ≡ 12) × (l.n-index ≤ 12)
