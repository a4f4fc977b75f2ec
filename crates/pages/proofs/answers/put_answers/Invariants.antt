-- `pages::answers::put_answers` meets its contract: the loop keeps that all lines written to the page as it came are
-- the lines left written to the page as it is, and which bytes it writes to.
use Prim.Native.Nat.{◌-◌}
use mathlib.Core.Path.{◌≡◌}
use Rattle.lines.specs.Put.{seen, put_all}
use Rattle.pages.specs.RunText.{answers_text}
use Rattle.pages.proofs.answers.put_answers.Given as goal

abbrev pub invariant-loop-i : goal.invariant-loop-i
invariant-loop-i l =
    (put_all (answers_text l.tried 0 0 l.codes l.answers l.records) (seen l.initial.page) ≡ put_all (answers_text (l.tried - l.i) l.i l.event l.codes l.answers l.records) (seen l.page))
    × (l.page.bytes.ghost_name ≡ l.initial.page.bytes.ghost_name)
