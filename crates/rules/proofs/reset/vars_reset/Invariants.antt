-- `rules::reset::vars_reset` meets its contract: the loop keeps that the whole is what stands already and what is
-- still to come.
use Prim.Native.Nat.{◌*◌}
use mathlib.Core.Path.{◌≡◌}
use lib.ListN.{length}
use Rattle.rules.specs.Restart.{var_reset, vars_reset}
use Rattle.rules.proofs.Loops.{up_to}
use Rattle.rules.proofs.reset.vars_reset.Given as goal

abbrev pub invariant-loop-i : goal.invariant-loop-i
invariant-loop-i l = (vars_reset 0 l.fn.vars l.slots l.m ≡ up_to (var_reset 0 l.m) l.slots l.vars (l.i * 16)) × (length l.vars ≡ 192)
