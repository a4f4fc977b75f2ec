-- `search::ahead::advance` meets its contract: the turn enters a longer schedule, or not.
use mathlib.Core.Bool.{false}
use mathlib.Core.Logic.{◌⊎◌, inl, inr}
use mathlib.Core.Path.{◌≡◌, ap, ◌∙◌}
use Rattle.search.specs.Turn.{is_longer}
use Rattle.search.specs.Search.{turned_on}
use Rattle.search.specs.declared.turn.Step.{Step}
use Rattle.search.specs.declared.turn.Next.{Next}
use Rattle.search.specs.declared.turn.Next.TheVariants.{Nothing, Last}
use Rattle.search.proofs.Laws.{with_room, longer_room}
use Rattle.search.proofs.ahead.advance.Goals as goal

pub returns-in-Longer : goal.returns-in-Longer
unfolding turned_on
returns-in-Longer c =
    let turned = rw c.level_of.ensures.is at c.turn-r.ensures in
    rw (← turned, c.in-Longer.is)
    (ap (with_room c.turn-r.new.room) c.entered.ensures
    ∙ longer_room c.args.m.now c.args.k _ c.args.records.now c.turn-r.new.room c.args.w.place c.turn-r.result.walk c.in-Longer.step c.args.stack.now c.args.deeps.now)

enters_none : (x : Next) → ((s : Step) × (x ≡ Last s)) ⊎ (x ≡ Nothing) → is_longer x ≡ false
enters_none x (inl (s, e)) = rw e
enters_none x (inr e) = rw e

pub returns-in-Last : goal.returns-in-Last
unfolding turned_on
returns-in-Last c = rw (← c.level_of.ensures.is, ← c.turn-r.ensures, enters_none c.turn-r.result.next c.in-Last.is)
