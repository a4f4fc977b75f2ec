-- `audit::tops::tops` meets its contract: the loop keeps that the tops of all labels are those of the labels from i
-- on, put into what is known.
use Prim.Native.Nat.{◌-◌}
use mathlib.Core.Path.{◌≡◌}
use Rattle.audit.specs.Tops.{tops_of, tops_from}
use Rattle.audit.proofs.tops.tops.Given as goal

abbrev pub invariant-loop-i : goal.invariant-loop-i
invariant-loop-i l = tops_of l.t ≡ tops_from (512 - l.i) l.i l.t l.out
