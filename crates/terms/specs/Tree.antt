-- A term of document 01 written out whole. This is what a label stands for, and what the rules speak of.
use Rattle.std.specs.Prelude.{ℕ, ◌+◌, max, Bool, true, false, List, [], ◌∷◌, ◌++◌, get_or, eqb}
use Rattle.std.proofs.Math.Decide.{ℕ_discrete}
use Rattle.terms.specs.Base.{pick, also}

-- kind first, then parts and numbers in their order
pub data Tree : Type 0 where
  -- kinds 0 to 8 and their number
  leaf : ℕ → ℕ → Tree
  -- kinds 10 to 12: a part and the number of a key; 13: a part, and 0
  sealed : ℕ → Tree → ℕ → Tree
  -- kind 15: the number of a function, and a part
  applied : ℕ → ℕ → Tree → Tree
  -- kinds 9 and 14: two parts
  joined : ℕ → Tree → Tree → Tree
  deriving Discrete as decTree

-- label 0: number 0
abbrev pub nought : Tree
nought = leaf 0 0

abbrev pub sinit : Tree
sinit = leaf 1 0

abbrev pub dinit : Tree
dinit = leaf 2 0

-- the kind that a term shows
unfoldable pub kind_of : Tree → ℕ
kind_of (leaf k a) = k
kind_of (sealed k x n) = k
kind_of (applied k f x) = k
kind_of (joined k x y) = k

-- "A leaf has depth 1, another term one more than its deepest part"
unfoldable pub deepness : Tree → ℕ
deepness (leaf k a) = 1
deepness (sealed k x n) = deepness x + 1
deepness (applied k f x) = deepness x + 1
deepness (joined k x y) = max (deepness x) (deepness y) + 1

-- "A term without variables is ground"
unfoldable pub is_ground : Tree → Bool
is_ground (leaf k a) = pick (eqb k 6) false true
is_ground (sealed k x n) = is_ground x
is_ground (applied k f x) = is_ground x
is_ground (joined k x y) = also (is_ground x) (is_ground y)

-- a thread's values put for variables: variable a stands at place o + a
unfoldable pub subst_t : List Tree → ℕ → Tree → Tree
subst_t vs o (leaf k a) = pick (eqb k 6) (get_or vs (o + a) nought) (leaf k a)
subst_t vs o (sealed k x n) = sealed k (subst_t vs o x) n
subst_t vs o (applied k f x) = applied k f (subst_t vs o x)
subst_t vs o (joined k x y) = joined k (subst_t vs o x) (subst_t vs o y)

-- "seq(v, e1, .., en) is v extended n times"
unfoldable pub seq : Tree → List Tree → Tree
seq v [] = v
seq v (e ∷ es) = seq (joined 14 v e) es

abbrev pub truth : {A : Type 0} → Dec A → Bool
truth (yes p) = true
truth (no p) = false

-- the same term
unfoldable pub same : Tree → Tree → Bool
same x y = truth (decTree ℕ_discrete x y)

unfoldable pub member : Tree → List Tree → Bool
member x [] = false
member x (y ∷ ys) = pick (same y x) true (member x ys)

-- the terms known, with one more unless it is known
unfoldable pub with : List Tree → Tree → List Tree
with ks x = pick (member x ks) ks (ks ++ (x ∷ []))

-- "New terms enter in this order: .. within a term first part, second part, whole"
unfoldable pub enter : List Tree → Tree → List Tree
enter ks (leaf k a) = with ks (leaf k a)
enter ks (sealed k x n) = with (enter ks x) (sealed k x n)
enter ks (applied k f x) = with (enter ks x) (applied k f x)
enter ks (joined k x y) = with (enter (enter ks x) y) (joined k x y)
