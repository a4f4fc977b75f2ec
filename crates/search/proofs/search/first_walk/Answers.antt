-- `search::search::first_walk` meets its contract: the level of the place, the place settled, and what is found before all.
use Rattle.search.specs.Turn.{found_all}
use Rattle.search.specs.Search.{first_walk}
use Rattle.search.proofs.search.first_walk.Goals as goal

pub returns : goal.returns
unfolding first_walk found_all
returns c = rw (← c.level_of.ensures.is, ← c.settled.ensures, c.found_all.ensures)
