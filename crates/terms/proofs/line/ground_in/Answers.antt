-- `terms::line::ground_in` meets its contract: the definition word for word.
use mathlib.Core.Path.{refl}
use Rattle.terms.specs.Line.{ground_in}
use Rattle.terms.proofs.line.ground_in.Goals as goal

pub returns : goal.returns
unfolding ground_in
returns c = refl
