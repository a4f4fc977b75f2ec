-- `list::list_all` is safe and ends: each page leaves fewer pages to come. The page is as long as `list_prints` asks: a
-- page shorter than that would drop the end of a full room.
use Rattle.std.proofs.Common.{◌≡◌, ◌+◌, ◌*◌, ◌/◌, ◌≤◌, length}
use Rattle.search.specs.Shown.{GoodBudget, Arrays}
use Rattle.pages.specs.ListPage.{stand_in}
use Rattle.pages.proofs.Spends.{pages_left}
use Rattle.list.proofs.list_all.Given as goal

abbrev pub invariant-loop-s : goal.invariant-loop-s
invariant-loop-s g l =
    (length l.room ≡ 15000) × (length l.page.bytes.now ≡ 167430) × (length l.s.place.codes ≡ 24) × GoodBudget l.s.left × Arrays l.m
    × (length l.room / 25 * 279 + 30 ≤ length l.page.bytes.now)

abbrev pub decreases-loop-s : goal.decreases-loop-s
decreases-loop-s g l = pages_left (stand_in l.s l.page.next)
