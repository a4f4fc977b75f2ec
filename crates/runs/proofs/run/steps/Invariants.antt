-- `runs::run::steps` meets its contract: the loop keeps that the course from the first code on is the course of
-- the codes left, and that the lent tables keep their lengths.
use mathlib.Core.Path.{◌≡◌}
use lib.ListN.{length, take, drop}
use Rattle.rules.specs.Made.{layout_of}
use Rattle.runs.specs.Run.{steps_from}
use Rattle.runs.proofs.run.steps.Given as goal

abbrev pub invariant-loop-i : goal.invariant-loop-i
invariant-loop-i l =
    (steps_from (take l.n l.codes) 0 (layout_of l.m) l.m.machine_count l.initial.t l.initial.answers l.initial.records l.fn.s 0
    ≡ steps_from (drop l.i (take l.n l.codes)) l.i (layout_of l.m) l.m.machine_count l.t l.answers l.records l.control l.events)
    × (length l.answers ≡ length l.initial.answers)
