-- `terms::table::cut` meets its contract: the loop keeps that cutting gives what filling with zero from line i on gives.
use Prim.Native.Nat.{◌-◌}
use mathlib.Core.Path.{◌≡◌}
use Rattle.terms.specs.Base.{filled}
use Rattle.terms.specs.Table.{used_of, cut_to}
use Rattle.terms.proofs.table.cut.Given as goal

abbrev pub invariant-loop-i : goal.invariant-loop-i
invariant-loop-i l = cut_to l.initial.t l.earlier l.count ≡ filled 0 (used_of l.count - l.i) l.i l.t
