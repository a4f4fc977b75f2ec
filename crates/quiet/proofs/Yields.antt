-- What an action yields, on trees alone: at most one deeper than what it is made of, and at most one term more than these.
use Prim.Native.Nat.{ℕ, ◌+◌, ◌<◌, ◌≤◌}
use mathlib.Core.Path.{◌≡◌, refl}
use mathlib.Core.Bool.{Bool, true, false}
use mathlib.Core.List.{List, [], ◌∷◌, ◌++◌}
use native.Mathlib.Omega.{arith}
use lib.ListN.{length, get_or, length-append}
use lib.Dec.{eqb}
use borrow.Author.Tests.{eqb-true}
use Rattle.terms.specs.Base.{pick}
use Rattle.terms.specs.Tree.{Tree, leaf, sealed, applied, joined, nought, deepness, subst_t, same, member, with, enter}
use Rattle.model.specs.declared.records.Action.{Action}
use Rattle.law.specs.Out.{Out, ok, refuse}
use Rattle.law.specs.Act.{num_of, first_of, second_of, is_a, needs, result}
use Rattle.law.specs.Turned.{yielded}
use Rattle.quiet.proofs.Room.{Inside, inside_enters}

-- values at most d deep put for the variables of a tree
pub subst_deep : (ws : List Tree) (o d : ℕ) → 1 ≤ d → ((i : ℕ) → deepness (get_or ws i nought) ≤ d) → (x : Tree) → deepness (subst_t ws o x) < deepness x + d
unfolding subst_t deepness
subst_deep ws o d some most (leaf k a) = go (eqb k 6)
  where
    go : (b : Bool) → deepness (pick b (get_or ws (o + a) nought) (leaf k a)) < 1 + d
    go true = let h = most (o + a) in omega arith
    go false = omega arith
subst_deep ws o d some most (sealed k x n) = let h = subst_deep ws o d some most x in omega arith
subst_deep ws o d some most (applied k f x) = let h = subst_deep ws o d some most x in omega arith
subst_deep ws o d some most (joined k x y) = let h = subst_deep ws o d some most x in let i = subst_deep ws o d some most y in omega arith

-- one term more at most
with_most : (ks : List Tree) (x : Tree) → length (with ks x) ≤ length ks + 1
unfolding with
with_most ks x = go (member x ks)
  where
    go : (b : Bool) → length (pick b ks (ks ++ (x ∷ []))) ≤ length ks + 1
    go true = omega arith
    go false = let e : length (ks ++ (x ∷ [])) ≡ length ks + 1 = length-append ks (x ∷ []) in omega arith

-- a result that is refused neither by 8 nor, with one entry free, by 9
pub record Small (ks : List Tree) (r : Tree) : Type 0 where
  pub flat : deepness r ≤ 16
  pub few : length (enter ks r) ≤ length ks + 1

leaf_small : (ks : List Tree) (k a : ℕ) → Small ks (leaf k a)
unfolding deepness enter
leaf_small ks k a = record { flat = omega arith; few = with_most ks (leaf k a) }

known_small : {ks : List Tree} {x : Tree} → Inside ks x → deepness x ≤ 16 → Small ks x
known_small {ks} p h = record { flat = h; few = rw (inside_enters p) (omega arith) }

module _ {ks : List Tree} {x : Tree} (p : Inside ks x) (h : deepness x ≤ 15) where
  sealed_small : (k n : ℕ) → Small ks (sealed k x n)
  unfolding deepness enter
  sealed_small k n = record { flat = omega arith; few = rw (inside_enters p) (with_most ks (sealed k x n)) }

  applied_small : (k f : ℕ) → Small ks (applied k f x)
  unfolding deepness enter
  applied_small k f = record { flat = omega arith; few = rw (inside_enters p) (with_most ks (applied k f x)) }

  joined_small : (k : ℕ) {v : Tree} → Inside ks v → deepness v ≤ 15 → Small ks (joined k v x)
  unfolding deepness enter
  joined_small k {v} q g = record { flat = omega arith; few = rw (inside_enters q, inside_enters p) (with_most ks (joined k v x)) }

-- the parts of a known term
first_small : {ks : List Tree} {x : Tree} → Inside ks x → deepness x ≤ 15 → Small ks (first_of x)
unfolding first_of deepness
first_small {ks} (Inside.bare q) h = leaf_small ks 0 0
first_small (Inside.first p q) h = known_small p (omega arith)
first_small {ks} (Inside.second p q) h = leaf_small ks 0 0
first_small (Inside.both p r q) h = known_small p (omega arith)

second_small : {ks : List Tree} {x : Tree} → Inside ks x → deepness x ≤ 15 → Small ks (second_of x)
unfolding second_of deepness
second_small {ks} (Inside.bare q) h = leaf_small ks 0 0
second_small {ks} (Inside.first p q) h = leaf_small ks 0 0
second_small (Inside.second p q) h = known_small p (omega arith)
second_small (Inside.both p r q) h = known_small r (omega arith)

-- of what comes of an action, where it fits
data Yields (ks : List Tree) : Out Tree → Type 0 where
  gives : {r : Tree} → Small ks r → Yields ks (ok r)
  unfit : {n : ℕ} → Yields ks (refuse n)

-- where it does not, number 0 stands for it
yields_small : {ks : List Tree} {o : Out Tree} → Yields ks o → Small ks (yielded o)
yields_small (gives h) = h
yields_small {ks} unfit = leaf_small ks 0 0

module _ {ks : List Tree} where
  yields_pick : {o q : Out Tree} (b : Bool) → Yields ks o → Yields ks q → Yields ks (pick b o q)
  yields_pick true h k = h
  yields_pick false h k = k

  yields_when : {o q : Out Tree} (b : Bool) → (b ≡ true → Yields ks o) → Yields ks q → Yields ks (pick b o q)
  yields_when true h k = h refl
  yields_when false h k = k

  needed : {r : Tree} (b : Bool) → Small ks r → Yields ks (needs b (ok r))
  needed b h = yields_pick b (gives h) unfit

-- the result of an action
module _ {ks : List Tree} {v x : Tree} (y : Tree) (kv : Inside ks v) (kx : Inside ks x) (flat : deepness v ≤ 16) (dx : deepness x ≤ 15) where
  opens : (kind key : ℕ) → Yields ks (needs (is_a kind x) (needs (is_a key y) (needs (eqb (num_of x) (num_of y)) (ok (first_of x)))))
  opens kind key = yields_pick (is_a kind x) (yields_pick (is_a key y) (needed (eqb (num_of x) (num_of y)) (first_small kx dx)) unfit) unfit

  seals : (kind key : ℕ) → Yields ks (needs (is_a key y) (ok (sealed kind x (num_of y))))
  seals kind key = needed (is_a key y) (sealed_small kx dx kind (num_of y))

  result_yields : (a : Action) (n : ℕ) → (a.op ≡ 2 → deepness v ≤ 15) → Yields ks (result a v x y n)
  unfolding result
  result_yields a n dv =
      yields_pick (eqb a.op 0) (gives (known_small kv flat))
      (yields_when (eqb a.op 2) (λ e. gives (joined_small kx dx 14 kv (dv (eqb-true a.op 2 e))))
      (yields_pick (eqb a.op 7) (seals 10 5)
      (yields_pick (eqb a.op 8) (opens 10 4)
      (yields_pick (eqb a.op 9) (seals 11 4)
      (yields_pick (eqb a.op 10) (opens 11 5)
      (yields_pick (eqb a.op 11) (seals 12 4)
      (yields_pick (eqb a.op 12) (opens 12 4)
      (yields_pick (eqb a.op 13) (gives (sealed_small kx dx 13 0))
      (yields_pick (eqb a.op 14) (gives (applied_small kx dx 15 a.loc))
      (yields_pick (eqb a.op 15) (needed (is_a 9 x) (first_small kx dx))
      (yields_pick (eqb a.op 16) (needed (is_a 9 x) (second_small kx dx))
      (yields_pick (eqb a.op 17) (needed (same x y) (leaf_small ks 0 0))
      (yields_pick (eqb a.op 18) (gives (leaf_small ks 7 n))
      (yields_pick (eqb a.op 19) (needed (is_a 8 x) (leaf_small ks 0 0))
      (gives (leaf_small ks 0 0))))))))))))))))

  pub result_small : (a : Action) (n : ℕ) → (a.op ≡ 2 → deepness v ≤ 15) → Small ks (yielded (result a v x y n))
  result_small a n dv = yields_small (result_yields a n dv)
