-- Lemmas on trees alone: members, terms entered in order, depths, and values put for variables.
-- No table is in it; Depth.antt and Substs.antt carry these over to labels.
use Prim.Native.Nat.{ℕ, ◌+◌, ◌≤◌}
use mathlib.Core.Path.{◌≡◌, refl}
use mathlib.Core.Bool.{Bool, true, false}
use mathlib.Core.List.{List, [], ◌∷◌, ◌++◌, append_assoc, append-nil}
use native.Mathlib.Omega.{arith}
use lib.ListN.{length, get_or, length-append}
use lib.Dec.{eqb}
use Rattle.terms.specs.Base.{pick}
use Rattle.terms.specs.Tree.{Tree, leaf, sealed, applied, joined, nought, deepness, is_ground, subst_t, same, member, with, enter}
use Rattle.terms.proofs.Meaning.{also_left, also_right}
use Rattle.terms.proofs.Labels.{same_self}

-- a test with the same two answers
pub pick_same : (b : Bool) → pick b true true ≡ true
pick_same true = refl
pick_same false = refl

-- members of a list stay members of a longer one
pub member_left : (x : Tree) (ks r : List Tree) → member x ks ≡ true → member x (ks ++ r) ≡ true
unfolding member
member_left x [] r h = let z : ◌≡◌ {A = ℕ} 0 1 = cc in absurd (omega arith)
member_left x (k ∷ ks) r h = go (same k x) (member_left x ks r) h
  where
    go : (b : Bool) → (member x ks ≡ true → member x (ks ++ r) ≡ true) → pick b true (member x ks) ≡ true → pick b true (member x (ks ++ r)) ≡ true
    go true ih e = refl
    go false ih e = ih e

-- and so in what stands behind
pub member_right : (x : Tree) (ks r : List Tree) → member x r ≡ true → member x (ks ++ r) ≡ true
unfolding member
member_right x [] r h = h
member_right x (k ∷ ks) r h = rw (member_right x ks r h) (pick_same (same k x))

-- a term is a member where it stands
pub member_here : (x : Tree) (r : List Tree) → member x (x ∷ r) ≡ true
unfolding member
member_here x r = rw (same_self x)

-- one more term: a known one changes nothing
pub with_known : (ks : List Tree) (x : Tree) → member x ks ≡ true → with ks x ≡ ks
unfolding with
with_known ks x h = rw h

-- a new one stands last
pub with_new : (ks : List Tree) (x : Tree) → member x ks ≡ false → with ks x ≡ ks ++ (x ∷ [])
unfolding with
with_new ks x h = rw h

-- and is known afterwards
pub with_has : (ks : List Tree) (x : Tree) → member x (with ks x) ≡ true
unfolding with
with_has ks x = go (member x ks) refl
  where
    go : (b : Bool) → member x ks ≡ b → member x (pick b ks (ks ++ (x ∷ []))) ≡ true
    go true e = e
    go false e = member_right x ks (x ∷ []) (member_here x [])

-- ls is ks with some more behind
pub data Longer (ks : List Tree) : List Tree → Type 0 where
  more : (r : List Tree) → Longer ks (ks ++ r)

-- nothing more behind
pub longer_same : (ks : List Tree) → Longer ks ks
longer_same ks = go (more [])
  where
    go : Longer ks (ks ++ []) → Longer ks ks
    go m = rw append-nil at m

-- more, and then more
pub longer_then : {ks ls ms : List Tree} → Longer ks ls → Longer ls ms → Longer ks ms
longer_then {ks} (more r) (more s) = rw append_assoc (more (r ++ s))

-- it is no shorter
pub longer_length : {ks ls : List Tree} → Longer ks ls → length ks ≤ length ls
longer_length {ks} (more r) = simp length-append (omega arith)

-- it keeps its members
pub longer_member : {ks ls : List Tree} → Longer ks ls → (x : Tree) → member x ks ≡ true → member x ls ≡ true
longer_member {ks} (more r) x h = member_left x ks r h

-- one more term only appends
pub with_longer : (ks : List Tree) (x : Tree) → Longer ks (with ks x)
unfolding with
with_longer ks x = go (member x ks)
  where
    go : (b : Bool) → Longer ks (pick b ks (ks ++ (x ∷ [])))
    go true = longer_same ks
    go false = more (x ∷ [])

-- entering a tree with its parts only appends
pub enter_longer : (ks : List Tree) (x : Tree) → Longer ks (enter ks x)
unfolding enter
enter_longer ks (leaf k a) = with_longer ks (leaf k a)
enter_longer ks (sealed k x n) = longer_then (enter_longer ks x) (with_longer (enter ks x) (sealed k x n))
enter_longer ks (applied k f x) = longer_then (enter_longer ks x) (with_longer (enter ks x) (applied k f x))
enter_longer ks (joined k x y) = longer_then (longer_then (enter_longer ks x) (enter_longer (enter ks x) y)) (with_longer (enter (enter ks x) y) (joined k x y))

-- so the number of terms never falls
pub with_length : (ks : List Tree) (x : Tree) → length ks ≤ length (with ks x)
with_length ks x = longer_length (with_longer ks x)

-- nor by entering a tree
pub enter_length : (ks : List Tree) (x : Tree) → length ks ≤ length (enter ks x)
enter_length ks x = longer_length (enter_longer ks x)

-- the parts of a tree are members of ks
pub data Parts (ks : List Tree) : Tree → Type 0 where
  bare : {k a : ℕ} → Parts ks (leaf k a)
  first : {k n : ℕ} {x : Tree} → member x ks ≡ true → Parts ks (sealed k x n)
  second : {k f : ℕ} {x : Tree} → member x ks ≡ true → Parts ks (applied k f x)
  both : {k : ℕ} {x y : Tree} → member x ks ≡ true → member y ks ≡ true → Parts ks (joined k x y)

-- with a term its parts are known
pub record Whole (ks : List Tree) : Type 0 where
  pub parts : (x : Tree) → member x ks ≡ true → Parts ks x

-- a known term whose parts are known enters nothing
enter_parts : {ks : List Tree} → Whole ks → (x : Tree) → Parts ks x → member x ks ≡ true → enter ks x ≡ ks
unfolding enter
enter_parts {ks} w (leaf k a) bare h = with_known ks (leaf k a) h
enter_parts {ks} w (sealed k x n) (first p) h = rw (enter_parts w x (w.parts x p) p) (with_known ks (sealed k x n) h)
enter_parts {ks} w (applied k f x) (second p) h = rw (enter_parts w x (w.parts x p) p) (with_known ks (applied k f x) h)
enter_parts {ks} w (joined k x y) (both p q) h =
    rw (enter_parts w x (w.parts x p) p, enter_parts w y (w.parts y q) q) (with_known ks (joined k x y) h)

-- a term that is known enters nothing
pub enter_known : {ks : List Tree} → Whole ks → (x : Tree) → member x ks ≡ true → enter ks x ≡ ks
enter_known w x h = enter_parts w x (w.parts x h) h

-- every tree is at least 1 deep
pub deepness_some : (x : Tree) → 1 ≤ deepness x
unfolding deepness
deepness_some (leaf k a) = omega arith
deepness_some (sealed k x n) = omega arith
deepness_some (applied k f x) = omega arith
deepness_some (joined k x y) = omega arith

-- a ground tree has no variable to put a value for
pub subst_of_ground : (ws : List Tree) (o : ℕ) (x : Tree) → is_ground x ≡ true → subst_t ws o x ≡ x
unfolding subst_t is_ground
subst_of_ground ws o (leaf k a) h = go (eqb k 6) h
  where
    go : (b : Bool) → pick b false true ≡ true → pick b (get_or ws (o + a) nought) (leaf k a) ≡ leaf k a
    go true e = let z : ◌≡◌ {A = ℕ} 0 1 = cc in absurd (omega arith)
    go false e = refl
subst_of_ground ws o (sealed k x n) h = rw (subst_of_ground ws o x h)
subst_of_ground ws o (applied k f x) h = rw (subst_of_ground ws o x h)
subst_of_ground ws o (joined k x y) h =
    rw (subst_of_ground ws o x (also_left (is_ground x) (is_ground y) h), subst_of_ground ws o y (also_right (is_ground x) (is_ground y) h))

-- with ground values every tree becomes ground, as an unbound variable is number 0
pub subst_ground : (ws : List Tree) (o : ℕ) → ((i : ℕ) → is_ground (get_or ws i nought) ≡ true) → (x : Tree) → is_ground (subst_t ws o x) ≡ true
unfolding subst_t is_ground
subst_ground ws o g (leaf k a) = go (eqb k 6) refl
  where
    go : (b : Bool) → eqb k 6 ≡ b → is_ground (pick b (get_or ws (o + a) nought) (leaf k a)) ≡ true
    go true e = g (o + a)
    go false e = rw e
subst_ground ws o g (sealed k x n) = subst_ground ws o g x
subst_ground ws o g (applied k f x) = subst_ground ws o g x
subst_ground ws o g (joined k x y) = rw (subst_ground ws o g x, subst_ground ws o g y)
