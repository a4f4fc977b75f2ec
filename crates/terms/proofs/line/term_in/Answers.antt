-- `terms::line::term_in` meets its contract: the definition word for word; each remainder fits its field.
use mathlib.Core.Path.{refl}
use Rattle.terms.specs.Line.{term_in}
use Rattle.terms.proofs.line.term_in.Goals as goal

pub returns : goal.returns
unfolding term_in
returns c = refl
