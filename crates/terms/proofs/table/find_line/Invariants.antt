-- `terms::table::find_line` meets its contract: the loop keeps that looking from the first label on gives what looking
-- from line i on gives.
use mathlib.Core.Path.{◌≡◌}
use lib.ListN.{take, drop}
use Rattle.terms.specs.Table.{find_in, find_line}
use Rattle.terms.proofs.table.find_line.Given as goal

abbrev pub invariant-loop-i : goal.invariant-loop-i
invariant-loop-i l = find_line l.t l.from l.count l.n ≡ find_in l.i (drop l.i (take l.count l.t)) l.n
