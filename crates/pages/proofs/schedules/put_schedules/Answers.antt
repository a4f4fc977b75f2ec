use mathlib.Core.Path.{refl, ◌∙◌}
use native.Mathlib.Nat.{sub-zero}
use native.Mathlib.Omega.{arith}
use Rattle.lines.specs.Put.{seen}
use Rattle.pages.proofs.Texts.{schedules_more, schedules_end}
use Rattle.pages.proofs.schedules.put_schedules.Goals as goal

pub loop-i-init : goal.loop-i-init
loop-i-init c = (rw sub-zero, refl)

pub loop-i-preserved : goal.loop-i-preserved
loop-i-preserved c = (
  rw (c.loop-i.invariant.0, schedules_more _ c.loop-i.i _ (seen c.loop-i.page) c.loop-i-test.true, ← c.put_schedule.ensures.written),
  c.put_schedule.ensures.same_bytes ∙ c.loop-i.invariant.1,
)

pub returns-clause-written : goal.returns-clause-written
returns-clause-written c = rw (c.loop-i.invariant.0, schedules_end c.args.found c.loop-i.i _ (seen c.loop-i.page) (omega arith))
