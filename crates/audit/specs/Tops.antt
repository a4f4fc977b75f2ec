-- The top of a term: how many variables it asks to be bound, one more than its highest variable, and 0 where it has
-- none. Label by label, parts first.
use Rattle.std.specs.Prelude.{ℕ, zero, suc, ◌+◌, max, List, get_or, set, replicate, ltb, eqb}
use Rattle.terms.specs.Base.{pick, larger_of}
use Rattle.terms.specs.Term.{shape_of}
use Rattle.terms.specs.Line.{term_at}
use Rattle.terms.specs.Tree.{Tree, leaf, sealed, applied, joined}
use Rattle.terms.specs.declared.term.Term.{Term}
use Rattle.terms.specs.declared.term.Shape.{Shape}
use Rattle.terms.specs.declared.term.Shape.TheVariants.{Bare, Number, Variable, Sealed, Hashed, Applied, Joined, Unknown}

-- of a term written out whole; `top_right` of proofs/Highest.antt says that the tops below are these
unfoldable pub topmost : Tree → ℕ
topmost (leaf k a) = pick (eqb k 6) (a + 1) 0
topmost (sealed k x n) = topmost x
topmost (applied k f x) = topmost x
topmost (joined k x y) = max (topmost x) (topmost y)

-- of variable a: "variables are 0 to 15"
unfoldable pub past_of : ℕ → ℕ
past_of a = pick (ltb a 16) (a + 1) 0

-- of a label, of the tops known so far
unfoldable pub top_at : List ℕ → ℕ → ℕ
top_at ks i = pick (ltb i 512) (get_or ks i 0) 0

abbrev pub top_by : Shape → List ℕ → ℕ → ℕ → ℕ
top_by Bare ks a b = 0
top_by Number ks a b = 0
top_by Variable ks a b = past_of a
top_by Sealed ks a b = top_at ks a
top_by Hashed ks a b = top_at ks a
top_by Applied ks a b = top_at ks b
top_by Joined ks a b = larger_of (top_at ks a) (top_at ks b)
top_by Unknown ks a b = 0

-- of a term, by the tops of its parts
unfoldable pub top_of : List ℕ → Term → ℕ
top_of ks x = top_by (shape_of x.kind) ks x.a x.b

-- of n labels from i on
unfoldable pub tops_from : ℕ → ℕ → List ℕ → List ℕ → List ℕ
tops_from zero i l ks = ks
tops_from (suc n) i l ks = tops_from n (i + 1) l (set ks i (top_of ks (term_at l i)))

unfoldable pub tops_of : List ℕ → List ℕ
tops_of l = tops_from 512 0 l (replicate 512 0)
