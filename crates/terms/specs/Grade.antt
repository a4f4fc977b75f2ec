-- "A leaf has depth 1, another term one more than its deepest part"; "a term without variables is ground".
use Rattle.std.specs.Prelude.{ℕ, ◌+◌, true, false, List}
use Rattle.terms.specs.Base.{also, larger_of}
use Rattle.terms.specs.Term.{shape_of}
use Rattle.terms.specs.Line.{grade, line_at, depth_in, ground_in}
use Rattle.terms.specs.declared.term.Term.{Term}
use Rattle.terms.specs.declared.term.Shape.{Shape}
use Rattle.terms.specs.declared.term.Shape.TheVariants.{Bare, Number, Variable, Sealed, Hashed, Applied, Joined, Unknown}
use Rattle.terms.specs.declared.line.Grade.{Grade}

-- above one part, and above two, of which the lines are given
unfoldable pub above_line : ℕ → Grade
above_line n = grade (depth_in n + 1) (ground_in n)

unfoldable pub above_both : ℕ → ℕ → Grade
above_both m n = grade (larger_of (depth_in m) (depth_in n) + 1) (also (ground_in m) (ground_in n))

abbrev pub grade_by : Shape → List ℕ → ℕ → ℕ → Grade
grade_by Bare l a b = grade 1 true
grade_by Number l a b = grade 1 true
grade_by Variable l a b = grade 1 false
grade_by Sealed l a b = above_line (line_at l a)
grade_by Hashed l a b = above_line (line_at l a)
grade_by Applied l a b = above_line (line_at l b)
grade_by Joined l a b = above_both (line_at l a) (line_at l b)
grade_by Unknown l a b = grade 1 true

unfoldable pub grade_of : List ℕ → Term → Grade
grade_of l x = grade_by (shape_of x.kind) l x.a x.b
