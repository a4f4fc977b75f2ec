-- `entered_in` taken apart as the code goes: the shape first, which gives the grade and the label to look from on.
-- Not needed to read the law; each `enter..` is `entered_in` of a term of its shape.
use Rattle.std.specs.Prelude.{ℕ, List, ltb}
use Rattle.terms.specs.Base.{pick, larger_of, Held, held}
use Rattle.terms.specs.Line.{line_at, packed}
use Rattle.terms.specs.Grade.{above_line, above_both}
use Rattle.terms.specs.Table.{find_line, added, add_by}
use Rattle.terms.specs.Subbed.{Subbed}
use Rattle.terms.specs.Subst.{as_got}
use Rattle.terms.specs.Outcome as O
use Rattle.terms.specs.declared.term.Term.{Term}
use Rattle.terms.specs.declared.line.Grade.{Grade}

-- a term of a known grade, looked for from label i on
unfoldable pub enter_from : ℕ → Grade → List ℕ → ℕ → Term → Held Subbed
enter_from i g l c x = as_got (pick (ltb 16 g.depth) (held (added O.Deep c) l) (add_by (find_line l i c (packed x g)) l c (packed x g)))

-- above one part, and above both fields
unfoldable pub enter_above : ℕ → List ℕ → ℕ → Term → Held Subbed
enter_above i l c x = enter_from i (above_line (line_at l i)) l c x

unfoldable pub enter_above_both : List ℕ → ℕ → Term → Held Subbed
enter_above_both l c x = enter_from (larger_of x.a x.b) (above_both (line_at l x.a) (line_at l x.b)) l c x
