-- `reader::first::first_reading` meets its contract: the loop keeps that the whole reading is what the lines of the
-- rest give. The measure is the bytes left.
use Prim.Native.Nat.{◌+◌, ◌≤◌}
use mathlib.Core.Path.{◌≡◌}
use lib.ListN.{length}
use Rattle.reader.specs.FirstReading.{read_from, reading_on}
use Rattle.lines.specs.Line.{lines_of}
use Rattle.reader.proofs.first.first_reading.Given as goal

abbrev pub invariant-loop-rest : goal.invariant-loop-rest
invariant-loop-rest l =
    (reading_on l.file l.initial.r.terms l.initial.r.actions l.initial.r.draft ≡ read_from l.line (lines_of l.rest) l.r.terms l.r.actions l.r.draft)
    × (l.line + length l.rest ≤ 65537)

abbrev pub decreases-loop-rest : goal.decreases-loop-rest
decreases-loop-rest l = length l.rest
