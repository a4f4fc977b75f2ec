-- `state::launch::locks_launched` meets its contract: the loop keeps that the whole is what stands already and what is
-- still to come.
use mathlib.Core.List.{◌++◌}
use mathlib.Core.Path.{◌≡◌}
use lib.ListN.{length, take, drop}
use Rattle.state.specs.Each.{each2}
use Rattle.state.specs.Launch.{lock_launched, locks_launched}
use Rattle.state.proofs.launch.locks_launched.Given as goal

abbrev pub invariant-loop-i : goal.invariant-loop-i
invariant-loop-i l =
    (locks_launched l.initial.locks l.locations l.m l.serial ≡ take l.i l.locks ++ each2 (lock_launched l.m l.serial) (drop l.i l.locks) (drop l.i l.locations))
    × (length l.locks ≡ 32)
