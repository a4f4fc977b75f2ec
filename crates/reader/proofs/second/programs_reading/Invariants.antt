-- `reader::second::programs_reading` meets its contract: the loop keeps that the programs give what those from the
-- present one on give.
use Prim.Native.Nat.{◌+◌, ◌*◌, ◌-◌, ◌≤◌}
use mathlib.Core.Path.{◌≡◌}
use Rattle.reader.specs.SecondReading.{program_reading, programs_from, programs_reading}
use Rattle.reader.proofs.second.programs_reading.Given as goal

abbrev pub invariant-loop-p : goal.invariant-loop-p
invariant-loop-p l =
    (programs_reading l.actions l.d
    ≡ programs_from (l.d.programs - l.p) l.p l.line (λ q. program_reading l.actions l.d.lengths l.d.locations l.d.location_count q) l.d.lengths)
    × (l.line ≤ l.d.count + 2 + 255 * l.p)
