-- `audit::tops::tops` meets its contract: one turn of the loop.
use Rattle.std.proofs.Common.{refl}
use Rattle.audit.specs.Tops.{tops_of}
use Rattle.audit.proofs.Laws.{tops_more, tops_end}
use Rattle.audit.proofs.tops.tops.Goals as goal

pub loop-i-init : goal.loop-i-init
unfolding tops_of
loop-i-init c = refl

pub loop-i-preserved : goal.loop-i-preserved
loop-i-preserved c =
    rw (
      c.loop-i.invariant,
      tops_more _ c.loop-i.i _ _ c.loop-i-test.true,
      ← c.term_in.ensures,
      ← c.top_of.ensures,
    )

pub returns : goal.returns
returns c = rw (c.loop-i.invariant, tops_end _ c.loop-i.i _ _ c.loop-i-test.false)
