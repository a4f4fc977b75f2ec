-- `lines::put::digit` meets its contract: the definition word for word.
use mathlib.Core.Path.{refl}
use Rattle.lines.specs.Put.{digit_of}
use Rattle.lines.proofs.put.digit.Goals as goal

pub returns : goal.returns
unfolding digit_of
returns c = refl
