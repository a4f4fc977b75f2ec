-- What is promised of adding and substituting, in terms of trees: the statements T2 and T3. The proofs are in proofs/.
use Rattle.std.specs.Prelude.{ℕ, ◌+◌, ◌<◌, ◌≤◌, max, ◌≡◌, true, false, List, [], ◌∷◌, ◌++◌, length, take, Option, None, Some}
use Rattle.terms.specs.Base.{Held, held}
use Rattle.terms.specs.Term.{in_limits, parts_below}
use Rattle.terms.specs.Table.{added}
use Rattle.terms.specs.Outcome.{Added}
use Rattle.terms.specs.Outcome as O
use Rattle.terms.specs.Taken.{Operands}
use Rattle.terms.specs.Taken as T
use Rattle.terms.specs.Subbed as G
use Rattle.terms.specs.Subbed.{Subbed, subbed}
use Rattle.terms.specs.Subst.{operands}
use Rattle.terms.specs.Sound.{Sound}
use Rattle.terms.specs.Tree.{Tree, deepness, member, enter}
use Rattle.terms.specs.Meaning.{trees, means, Den}
use Rattle.terms.specs.declared.term.Term.{Term}

-- a term that may be entered as the next line of a table with c terms
pub record Fit (x : Term) (c : ℕ) : Type 0 where
  pub limits : in_limits x ≡ true
  pub parts : parts_below x c ≡ true
  pub kind : x.kind < 256
  pub first : x.a < 65536
  pub second : x.b < 65536

-- m, of d terms, is sound and is l, of c terms, with some more behind
pub record Grows (l : List ℕ) (c : ℕ) (m : List ℕ) (d : ℕ) : Type 0 where
  pub sound : Sound m d
  pub long : length m ≡ 512
  pub rises : c ≤ d
  pub front : take c m ≡ take c l

-- related element by element
pub data Each {A B : Type 0} (P : A → B → Type 0) : List A → List B → Type 0 where
  none : Each P [] []
  one : {a : A} {b : B} {l : List A} {r : List B} → P a b → Each P l r → Each P (a ∷ l) (b ∷ r)

-- Finding a term: a label exactly when it denotes the term, nothing exactly when no label does
pub data Finds (l : List ℕ) (c : ℕ) (x : Term) : Option ℕ → Type 0 where
  at : {i : ℕ} → Den l c i (means l c x) → Finds l c x (Some i)
  nothing : member (means l c x) (trees l c) ≡ false → Finds l c x None

-- T2. Adding a term: "8" exactly when it is deeper than 16; an old label exactly when one denotes it; else a new line, and "9" exactly when there is no room
pub data Adds (l : List ℕ) (c : ℕ) (x : Term) : Held Added → Type 0 where
  deep : 16 < deepness (means l c x) → Adds l c x (held (added O.Deep c) l)
  listed : {i : ℕ} → deepness (means l c x) ≤ 16 → Den l c i (means l c x) → Adds l c x (held (added (O.Listed i) c) l)
  new : {m : List ℕ} → deepness (means l c x) ≤ 16 → member (means l c x) (trees l c) ≡ false → c < 512 → Grows l c m (c + 1) → Den m (c + 1) c (means l c x) → trees m (c + 1) ≡ trees l c ++ (means l c x ∷ [])
      → Adds l c x (held (added (O.New c) (c + 1)) m)
  full : deepness (means l c x) ≤ 16 → member (means l c x) (trees l c) ≡ false → c ≡ 512 → Adds l c x (held (added O.Full c) l)

-- T3. The tree z, at most 16 deep, entered part by part: all its new terms in order, or not enough room for them
pub data Enters (l : List ℕ) (c : ℕ) (z : Tree) : Held Subbed → Type 0 where
  done : {m : List ℕ} {d j : ℕ} → Grows l c m d → Den m d j z → trees m d ≡ enter (trees l c) z → Enters l c z (held (subbed (G.Label j) d) m)
  full : {m : List ℕ} {d : ℕ} → 512 < length (enter (trees l c) z) → Enters l c z (held (subbed G.Full d) m)

-- both operands of an action: "8" exactly when one is deeper than 16, then "9" exactly when both together have more new terms than there is room for
pub data Takes (l : List ℕ) (c : ℕ) (x y : Tree) : Held Operands → Type 0 where
  deep : 16 < max (deepness x) (deepness y) → Takes l c x y (held (operands T.Deep c) l)
  full : max (deepness x) (deepness y) ≤ 16 → 512 < length (enter (enter (trees l c) x) y) → Takes l c x y (held (operands T.Full c) l)
  done : {m : List ℕ} {d i j : ℕ} → max (deepness x) (deepness y) ≤ 16 → Grows l c m d → Den m d i x → Den m d j y → trees m d ≡ enter (enter (trees l c) x) y
      → Takes l c x y (held (operands (T.Labels i j) d) m)
