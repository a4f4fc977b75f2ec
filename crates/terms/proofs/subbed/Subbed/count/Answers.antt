-- `terms::subbed::Subbed::count` meets its contract: the definition word for word.
use mathlib.Core.Path.{refl}
use Rattle.terms.specs.Subbed.{count_in, subbed_in}
use Rattle.terms.proofs.subbed.Subbed.count.Goals as goal

pub returns : goal.returns
unfolding subbed_in count_in
returns c = refl
