-- `reader::second::programs_reading` meets its contract: the first refusal of a program.
use native.Mathlib.Nat.{sub-zero}
use borrow.Author.Rules.{rules}
use Rattle.reader.specs.SecondReading.{programs_reading}
use Rattle.reader.proofs.Laws.{refused, programs_more, programs_end}
use Rattle.reader.proofs.second.programs_reading.Goals as goal

pub loop-p-init : goal.loop-p-init
unfolding programs_reading
loop-p-init c = (rw (sub-zero, ← c.line_of_label-line.ensures.is), search rules)

pub returns-in-Err : goal.returns-in-Err
unfolding programs_reading
returns-in-Err c = rw (c.loop-p.invariant.0, programs_more _ c.loop-p.p c.loop-p.line _ _ c.loop-p-test.true, ← c.program_reading.ensures, c.in-Err.is, refused, c.from.ensures)

pub loop-p-preserved : goal.loop-p-preserved
unfolding programs_reading
loop-p-preserved c = (rw (c.loop-p.invariant.0, programs_more _ c.loop-p.p c.loop-p.line _ _ c.loop-p-test.true, ← c.program_reading.ensures, c.in_default.is, ← c.length_at.ensures, c.from-line.ensures), search rules)

pub returns : goal.returns
unfolding programs_reading
returns c = rw (c.loop-p.invariant.0, programs_end _ c.loop-p.p c.loop-p.line _ _ c.loop-p-test.false)
