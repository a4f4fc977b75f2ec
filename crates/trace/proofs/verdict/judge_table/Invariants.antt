-- `trace::verdict::judge_table` meets its contract: the loop keeps that the first i events stand and that the others
-- are the records from i on.
use Rattle.std.proofs.Common.{◌≡◌, ◌-◌, ◌++◌, length, take}
use Rattle.trace.specs.Table.{events_from, standing}
use Rattle.trace.proofs.verdict.judge_table.Given as goal

abbrev pub invariant-loop-i : goal.invariant-loop-i
invariant-loop-i l = (standing l.records ≡ take l.i l.es ++ events_from (4096 - l.i) l.i l.records) × (length l.es ≡ 4096)
