-- `rules::reset::values_reset` meets its contract: the loop keeps that the whole is what stands already and what is still to come.
use mathlib.Core.List.{◌++◌}
use mathlib.Core.Path.{◌≡◌}
use lib.ListN.{length, take, drop}
use Rattle.state.specs.Each.{each2}
use Rattle.rules.specs.Restart.{value_reset, values_reset}
use Rattle.rules.proofs.reset.values_reset.Given as goal

abbrev pub invariant-loop-i : goal.invariant-loop-i
invariant-loop-i l =
    (values_reset 0 1 l.fn.values l.locations l.m ≡ take l.i l.values ++ each2 (value_reset 0 1 l.m) (drop l.i l.values) (drop l.i l.locations))
    × (length l.values ≡ 32)
