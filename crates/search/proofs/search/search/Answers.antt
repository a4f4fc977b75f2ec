-- `search::search::search` meets its contract: the listing with room for one schedule.
use mathlib.Core.Path.{◌≡◌}
use native.Mathlib.Omega.{arith}
use lib.ListN.{length, drop, length-drop}
use lib.Seq.{take_all}
use borrow.Author.Rules.{rules}
use Rattle.search.specs.Search.{search_on}
use Rattle.search.proofs.search.search.Goals as goal

pub returns : goal.returns
unfolding search_on
returns c =
    let long : length c.listing-l.new.room ≡ 25 = search rules in
    rw (← c.listing-l.ensures, c.copy_from_slice.ensures.after, take_all 24 (drop 1 c.listing-l.new.room) (rw (length-drop, long) (omega arith)))
