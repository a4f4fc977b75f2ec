-- `terms::line::pack` meets its contract: the sum fits since each part is below its width; the mark is 0 or 1.
use Rattle.terms.specs.Line.{packed}
use Rattle.terms.proofs.Laws.{bit_is}
use Rattle.terms.proofs.line.pack.Goals as goal

pub returns : goal.returns
unfolding packed
returns c =
    rw (
      c.from-grounded.ensures,
      bit_is _,
      c.from-depth.ensures,
      c.from-kind.ensures,
      c.from-a.ensures,
      c.from-b.ensures,
    )
