-- `pages::lister::Stand::start` meets its contract: the start place is all that is computed.
use Rattle.pages.specs.ListPage.{stand_start}
use Rattle.pages.proofs.lister.Stand.start.Goals as goal

pub returns : goal.returns
unfolding stand_start
returns c = rw (← c.start.ensures)
