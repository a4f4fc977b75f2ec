-- `lines::codes::first_bad_line` meets its contract: the loop keeps that the first bad line of all is that of the lines left,
-- the next of them being number i. The measure is the bytes left.
use Prim.Native.Nat.{◌-◌, ◌≤◌}
use mathlib.Core.Path.{◌≡◌}
use lib.ListN.{length, drop}
use Rattle.lines.specs.Line.{lines_of}
use Rattle.lines.specs.Codes.{judge_from, judged}
use Rattle.lines.proofs.codes.first_bad_line.Given as goal

abbrev pub invariant-loop-code : goal.invariant-loop-code
invariant-loop-code l = (judged l.rest ≡ judge_from l.i (lines_of (drop l.at l.rest))) × (l.at ≤ length l.rest) × (l.i ≤ l.at)

abbrev pub decreases-loop-code : goal.decreases-loop-code
decreases-loop-code l = length l.rest - l.at
