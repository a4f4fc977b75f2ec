-- `terms::line::depth_in` meets its contract: the definition word for word.
use mathlib.Core.Path.{refl}
use Rattle.terms.specs.Line.{depth_in}
use Rattle.terms.proofs.line.depth_in.Goals as goal

pub returns : goal.returns
unfolding depth_in
returns c = refl
