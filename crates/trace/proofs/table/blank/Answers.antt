-- `trace::table::blank` meets its contract: the same event at every place.
use Rattle.trace.proofs.table.blank.Goals as goal

pub returns : goal.returns
returns c = rw c.none.ensures
