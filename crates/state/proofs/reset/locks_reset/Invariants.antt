-- `state::reset::locks_reset` meets its contract: the loop keeps that the whole is what stands already and what is
-- still to come.
use mathlib.Core.List.{◌++◌}
use mathlib.Core.Path.{◌≡◌}
use lib.ListN.{length, take, drop}
use Rattle.state.specs.Each.{each2}
use Rattle.state.specs.Reset.{lock_reset, locks_reset}
use Rattle.state.proofs.reset.locks_reset.Given as goal

abbrev pub invariant-loop-i : goal.invariant-loop-i
invariant-loop-i l =
    (locks_reset l.initial.locks l.locations l.m l.protected l.serial ≡ take l.i l.locks ++ each2 (lock_reset l.m l.protected l.serial) (drop l.i l.locks) (drop l.i l.locations))
    × (length l.locks ≡ 32)
