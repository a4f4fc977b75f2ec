-- What a label denotes: the trees of the lines, in their order.
use Rattle.std.specs.Prelude.{ℕ, ◌<◌, ◌≡◌, List, [], ◌∷◌, ◌++◌, get_or, take}
use Rattle.terms.specs.Term.{shape_of}
use Rattle.terms.specs.Line.{term_in}
use Rattle.terms.specs.Tree.{Tree, leaf, sealed, applied, joined, nought}
use Rattle.terms.specs.declared.term.Term.{Term}
use Rattle.terms.specs.declared.term.Shape.{Shape}
use Rattle.terms.specs.declared.term.Shape.TheVariants.{Bare, Number, Variable, Sealed, Hashed, Applied, Joined, Unknown}

abbrev pub build_by : Shape → ℕ → ℕ → ℕ → List Tree → Tree
build_by Bare k a b ts = leaf k a
build_by Number k a b ts = leaf k a
build_by Variable k a b ts = leaf k a
build_by Sealed k a b ts = sealed k (get_or ts a nought) b
build_by Hashed k a b ts = sealed k (get_or ts a nought) b
build_by Applied k a b ts = applied k a (get_or ts b nought)
build_by Joined k a b ts = joined k (get_or ts a nought) (get_or ts b nought)
build_by Unknown k a b ts = leaf k a

-- a term whose parts are labels of ts, written out whole
unfoldable pub build : Term → List Tree → Tree
build x ts = build_by (shape_of x.kind) x.kind x.a x.b ts

-- line by line, each over the trees before it
unfoldable pub trees_from : List Tree → List ℕ → List Tree
trees_from ts [] = ts
trees_from ts (n ∷ ns) = trees_from (ts ++ (build (term_in n) ts ∷ [])) ns

-- the terms of a table, in the order of their labels
unfoldable pub trees : List ℕ → ℕ → List Tree
trees l c = trees_from [] (take c l)

unfoldable pub tree_of : List ℕ → ℕ → ℕ → Tree
tree_of l c i = get_or (trees l c) i nought

-- what a new term would denote in a table
unfoldable pub means : List ℕ → ℕ → Term → Tree
means l c x = build x (trees l c)

-- label i denotes x
pub record Den (l : List ℕ) (c i : ℕ) (x : Tree) : Type 0 where
  pub below : i < c
  pub is : tree_of l c i ≡ x
