-- `pages::schedules::put_codes` meets its contract: the loop keeps that all codes written to the page as it came are
-- the codes left written to the page as it is, and which bytes it writes to.
use Prim.Native.Nat.{◌+◌, ◌-◌}
use mathlib.Core.Path.{◌≡◌}
use Rattle.lines.specs.Put.{seen, put_all}
use Rattle.pages.specs.ListText.{codes_text}
use Rattle.pages.proofs.schedules.put_codes.Given as goal

abbrev pub invariant-loop-i : goal.invariant-loop-i
invariant-loop-i l =
    (put_all (codes_text l.length l.room (l.start + 1)) (seen l.initial.page) ≡ put_all (codes_text (l.length - l.i) l.room (l.start + (l.i + 1))) (seen l.page))
    × (l.page.bytes.ghost_name ≡ l.initial.page.bytes.ghost_name)
