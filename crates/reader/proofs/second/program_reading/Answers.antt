-- `reader::second::program_reading` meets its contract: the first refusal of an action.
use native.Mathlib.Nat.{sub-zero}
use Rattle.reader.specs.SecondReading.{program_reading}
use Rattle.reader.proofs.Laws.{refused, within_more, within_end}
use Rattle.reader.proofs.second.program_reading.Goals as goal

pub loop-k-init : goal.loop-k-init
unfolding program_reading
loop-k-init c = rw (← c.length_at-k-end.ensures, sub-zero)

pub returns-in-Err : goal.returns-in-Err
unfolding program_reading
returns-in-Err c = rw (c.loop-k.invariant, within_more _ c.loop-k.k _ c.loop-k-test.true, ← c.action_second.ensures, c.in-Err.is, refused)

pub loop-k-preserved : goal.loop-k-preserved
unfolding program_reading
loop-k-preserved c = rw (c.loop-k.invariant, within_more _ c.loop-k.k _ c.loop-k-test.true, ← c.action_second.ensures, c.in_default.is)

pub returns : goal.returns
unfolding program_reading
returns c = rw (c.loop-k.invariant, within_end _ c.loop-k.k _ c.loop-k-test.false)
