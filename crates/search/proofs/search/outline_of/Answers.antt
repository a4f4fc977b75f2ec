-- `search::search::outline_of` meets its contract: the depth of the deepest listed term.
use Rattle.quiet.specs.Quiet.{outline_of}
use Rattle.search.proofs.search.outline_of.Goals as goal

pub returns : goal.returns
unfolding outline_of
returns c = rw (← c.deepest.ensures)
