-- `lines::put::Page::put_bytes` meets its contract: the loop keeps that writing all gives what writing the bytes left to the
-- page as it is gives, and which bytes it writes to.
use mathlib.Core.Path.{◌≡◌}
use lib.ListN.{drop}
use Rattle.lines.specs.Put.{seen, put_all}
use Rattle.lines.proofs.put.Page.put_bytes.Given as goal

abbrev pub invariant-loop-b : goal.invariant-loop-b
invariant-loop-b l =
    (put_all l.word (seen l.initial.self) ≡ put_all (drop l.b-index l.word) (seen l.self)) × (l.self.bytes.ghost_name ≡ l.initial.self.bytes.ghost_name)
