-- `lines::tail::tail_of` meets its contract: the loop keeps that all lines give what t and the lines left give. The
-- measure is the bytes left.
use Prim.Native.Nat.{◌-◌, ◌≤◌}
use mathlib.Core.Path.{◌≡◌}
use lib.ListN.{length, drop}
use Rattle.lines.specs.Line.{lines_of}
use Rattle.lines.specs.Tail.{tail_of}
use Rattle.lines.proofs.Lines.{go_on}
use Rattle.lines.proofs.tail.tail_of.Given as goal

abbrev pub invariant-loop-at : goal.invariant-loop-at
invariant-loop-at l = (tail_of l.letter l.s ≡ go_on l.letter l.t l.at l.lines (lines_of (drop l.at l.s))) × (l.at ≤ length l.s) × (l.lines ≤ l.at)

abbrev pub decreases-loop-at : goal.decreases-loop-at
decreases-loop-at l = length l.s - l.at
