use mathlib.Core.Path.{◌∙◌}
use native.Mathlib.Omega.{arith}
use Rattle.lines.specs.Put.{seen}
use Rattle.lines.proofs.Puts.{put_more, put_none}
use Rattle.lines.proofs.put.Page.put_bytes.Goals as goal

pub loop-b-preserved : goal.loop-b-preserved
loop-b-preserved c = (
  rw (c.loop-b.invariant.0, put_more _ c.loop-b.b-index (seen c.loop-b.self) c.loop-b-test.true, ← c.put_byte.ensures.written),
  c.put_byte.ensures.same_bytes ∙ c.loop-b.invariant.1,
)

pub returns-clause-written : goal.returns-clause-written
returns-clause-written c =
    rw (c.loop-b.invariant.0, put_none c.args.word.now c.loop-b.b-index (seen c.loop-b.self) (omega arith))
