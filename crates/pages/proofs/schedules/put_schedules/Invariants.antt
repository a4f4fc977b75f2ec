-- `pages::schedules::put_schedules` meets its contract: the loop keeps that all lines written to the page as it came
-- are the lines left written to the page as it is, and which bytes it writes to.
use Prim.Native.Nat.{◌-◌}
use mathlib.Core.Path.{◌≡◌}
use Rattle.lines.specs.Put.{seen, put_all}
use Rattle.pages.specs.ListText.{schedules_text}
use Rattle.pages.proofs.schedules.put_schedules.Given as goal

abbrev pub invariant-loop-i : goal.invariant-loop-i
invariant-loop-i l =
    (put_all (schedules_text l.found l.room 0) (seen l.initial.page) ≡ put_all (schedules_text (l.found - l.i) l.room l.i) (seen l.page))
    × (l.page.bytes.ghost_name ≡ l.initial.page.bytes.ghost_name)
