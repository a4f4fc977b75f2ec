-- `reader::second::program_reading` meets its contract: the loop keeps that the first bad action is the first from
-- the present one on.
use Prim.Native.Nat.{◌-◌}
use mathlib.Core.Path.{◌≡◌}
use Rattle.reader.specs.SecondReading.{within_from, action_second, program_reading}
use Rattle.reader.proofs.second.program_reading.Given as goal

abbrev pub invariant-loop-k : goal.invariant-loop-k
invariant-loop-k l = program_reading l.actions l.d.lengths l.d.locations l.d.location_count l.p ≡ within_from (l.k-end - l.k) l.k (λ j. action_second l.actions l.d.lengths l.d.locations l.d.location_count l.p j)
