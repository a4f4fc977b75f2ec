-- T1: no tree has two labels. And what is a tree of the table, which labels denote.
use Prim.Native.Nat.{ℕ, zero, suc, ◌<◌}
use mathlib.Core.Path.{◌≡◌, refl, sym, ap, ◌∙◌, subst}
use mathlib.Core.Bool.{Bool, true, false}
use mathlib.Core.List.{List, [], ◌∷◌}
use mathlib.Core.Logic.{◌↔◌}
use native.Mathlib.Omega.{arith}
use native.Mathlib.Decide.{ℕ_discrete}
use lib.ListN.{length, get_or}
use lib.Dec.{ltb, eqb}
use borrow.Author.Tests.{ltb-true, eqb-true}
use Rattle.terms.specs.Base.{pick}
use Rattle.terms.specs.Term.{shape_of, limits_by, in_limits, parts_by, parts_below}
use Rattle.terms.specs.Line.{term_at}
use Rattle.terms.specs.Sound.{Sound}
use Rattle.terms.specs.Tree.{Tree, nought, kind_of, truth, same, member, decTree}
use Rattle.terms.specs.Meaning.{build_by, build, trees, tree_of, means, Den}
use Rattle.terms.specs.declared.term.Term.{Term}
use Rattle.terms.specs.declared.term.Shape.{Shape}
use Rattle.terms.specs.declared.term.Shape.TheVariants.{Bare, Number, Variable, Sealed, Hashed, Applied, Joined, Unknown}
use Rattle.terms.proofs.Meaning.{length_trees, also_left, also_right, tree_at}

-- One label a tree

kind_by_lem : (s : Shape) (k a b : ℕ) (ts : List Tree) → kind_of (build_by s k a b ts) ≡ k
unfolding kind_of
kind_by_lem Bare k a b ts = refl
kind_by_lem Number k a b ts = refl
kind_by_lem Variable k a b ts = refl
kind_by_lem Sealed k a b ts = refl
kind_by_lem Hashed k a b ts = refl
kind_by_lem Applied k a b ts = refl
kind_by_lem Joined k a b ts = refl
kind_by_lem Unknown k a b ts = refl

-- a term shows the kind of its line
pub kind_build : (x : Term) (ts : List Tree) → kind_of (build x ts) ≡ x.kind
unfolding build
kind_build x ts = kind_by_lem (shape_of x.kind) x.kind x.a x.b ts

record Pairs (a b e f : ℕ) : Type 0 where
  first : a ≡ e
  second : b ≡ f

zeros : (a b e f : ℕ) → a ≡ e → eqb b 0 ≡ true → eqb f 0 ≡ true → Pairs a b e f
zeros a b e f p h g = record { first = p; second = eqb-true b 0 h ∙ sym (eqb-true f 0 g) }

-- labels below n of ts and below m of ts with one tree are one
abbrev Apart : List Tree → ℕ → ℕ → Type 0
Apart ts n m = (i j : ℕ) → i < n → j < m → get_or ts i nought ≡ get_or ts j nought → i ≡ j

fields_by_lem : (s : Shape) (k a b e f n m : ℕ) (ts : List Tree) → limits_by s a b ≡ true → limits_by s e f ≡ true → parts_by s a b n ≡ true → parts_by s e f m ≡ true
    → Apart ts n m → build_by s k a b ts ≡ build_by s k e f ts → Pairs a b e f
fields_by_lem Bare k a b e f n m ts u v p q d h = zeros a b e f (cc) (also_right (eqb a 0) (eqb b 0) u) (also_right (eqb e 0) (eqb f 0) v)
fields_by_lem Number k a b e f n m ts u v p q d h = zeros a b e f (cc) u v
fields_by_lem Variable k a b e f n m ts u v p q d h = zeros a b e f (cc) (also_right (ltb a 16) (eqb b 0) u) (also_right (ltb e 16) (eqb f 0) v)
fields_by_lem Sealed k a b e f n m ts u v p q d h =
    let t : get_or ts a nought ≡ get_or ts e nought = cc in
    record { first = d a e (ltb-true a n p) (ltb-true e m q) t; second = cc }
fields_by_lem Hashed k a b e f n m ts u v p q d h =
    let t : get_or ts a nought ≡ get_or ts e nought = cc in
    record { first = d a e (ltb-true a n p) (ltb-true e m q) t; second = cc }
fields_by_lem Applied k a b e f n m ts u v p q d h =
    let t : get_or ts b nought ≡ get_or ts f nought = cc in
    record { first = cc; second = d b f (ltb-true b n p) (ltb-true f m q) t }
fields_by_lem Joined k a b e f n m ts u v p q d h =
    let t : get_or ts a nought ≡ get_or ts e nought = cc in
    let w : get_or ts b nought ≡ get_or ts f nought = cc in
    record {
      first = d a e (ltb-true a n (also_left (ltb a n) (ltb b n) p)) (ltb-true e m (also_left (ltb e m) (ltb f m) q)) t;
      second = d b f (ltb-true b n (also_right (ltb a n) (ltb b n) p)) (ltb-true f m (also_right (ltb e m) (ltb f m) q)) w;
    }
fields_by_lem Unknown k a b e f n m ts u v p q d h = let z : ◌≡◌ {A = ℕ} 0 1 = cc in absurd (omega arith)

fields_one : (k a b h e f n m : ℕ) (ts : List Tree) → k ≡ h → limits_by (shape_of k) a b ≡ true → limits_by (shape_of h) e f ≡ true
    → parts_by (shape_of k) a b n ≡ true → parts_by (shape_of h) e f m ≡ true → Apart ts n m
    → build_by (shape_of k) k a b ts ≡ build_by (shape_of h) h e f ts → Pairs a b e f
fields_one k a b h e f n m ts z u v p q d t =
    fields_by_lem (shape_of k) k a b e f n m ts u (subst (λ (r : ℕ). limits_by (shape_of r) e f ≡ true) (sym z) v) p
    (subst (λ (r : ℕ). parts_by (shape_of r) e f m ≡ true) (sym z) q) d
    (t ∙ ap (λ (r : ℕ). build_by (shape_of r) r e f ts) (sym z))

-- terms with one tree are one, if that holds of their parts
pub term_one : (x y : Term) (n m : ℕ) (ts : List Tree) → in_limits x ≡ true → in_limits y ≡ true → parts_below x n ≡ true → parts_below y m ≡ true
    → ((i j : ℕ) → i < n → j < m → get_or ts i nought ≡ get_or ts j nought → i ≡ j) → build x ts ≡ build y ts → x ≡ y
unfolding in_limits parts_below build
term_one x y n m ts u v p q d t =
    let k : x.kind ≡ y.kind = sym (kind_build x ts) ∙ ap kind_of t ∙ kind_build y ts in
    let r = fields_one x.kind x.a x.b y.kind y.a y.b n m ts k u v p q d t in
    let f : x.a ≡ y.a = r.first in
    let g : x.b ≡ y.b = r.second in
    λ i. record { kind = k i; a = f i; b = g i }

label_in_lem : (n : ℕ) {l : List ℕ} {c : ℕ} → Sound l c → length l ≡ 512 → (i j : ℕ) → i < n → j < n → i < c → j < c → tree_of l c i ≡ tree_of l c j → i ≡ j
unfolding tree_of means
label_in_lem zero S p i j h k g w t = absurd (omega arith)
label_in_lem (suc n) {l} {c} S p i j h k g w t =
    let e : build (term_at l i) (trees l c) ≡ build (term_at l j) (trees l c) = sym (tree_at S p i g) ∙ t ∙ tree_at S p j w in
    S.distinct i j g w
    (term_one (term_at l i) (term_at l j) i j (trees l c) (S.limits i g) (S.limits j w) (S.parts i g) (S.parts j w)
    (λ a b q r. label_in_lem n S p a b (omega arith) (omega arith) (omega arith) (omega arith)) e)

-- T1. Labels that denote one tree are one label
pub one_label : {l : List ℕ} {c : ℕ} → Sound l c → length l ≡ 512 → (i j : ℕ) → i < c → j < c → tree_of l c i ≡ tree_of l c j → i ≡ j
one_label {c} S p i j h k t = label_in_lem c S p i j h k h k t

-- T1, both ways: terms are equal exactly when their labels are
pub label_iff : {l : List ℕ} {c : ℕ} → Sound l c → length l ≡ 512 → (i j : ℕ) → i < c → j < c → (tree_of l c i ≡ tree_of l c j) ↔ (i ≡ j)
label_iff {l} {c} S p i j h k = (one_label S p i j h k, λ e. ap (tree_of l c) e)

-- Members

truth_yes : {A : Type 0} (d : Dec A) → truth d ≡ true → A
truth_yes (yes p) h = p
truth_yes (no p) h = let z : ◌≡◌ {A = ℕ} 0 1 = cc in absurd (omega arith)

yes_truth : {A : Type 0} (d : Dec A) → A → truth d ≡ true
yes_truth (yes p) a = refl
yes_truth (no p) a = absurd (p a)

-- the test of trees is right
pub same_true : (x y : Tree) → same x y ≡ true → x ≡ y
unfolding same
same_true x y h = truth_yes (decTree ℕ_discrete x y) h

-- a tree is the same as itself, and as one equal to it
pub same_self : (x : Tree) → same x x ≡ true
unfolding same
same_self x = yes_truth (decTree ℕ_discrete x x) refl

pub same_eq : (x y : Tree) → x ≡ y → same x y ≡ true
unfolding same
same_eq x y e = yes_truth (decTree ℕ_discrete x y) e

pick_true : (t q : Bool) → q ≡ true → pick t true q ≡ true
pick_true true q h = refl
pick_true false q h = h

-- what stands at a place is a member
pub member_at : (x : Tree) (ts : List Tree) (i : ℕ) → i < length ts → get_or ts i nought ≡ x → member x ts ≡ true
unfolding member
member_at x [] i h e = absurd (omega arith)
member_at x (y ∷ ys) zero h e = rw (same_eq y x e)
member_at x (y ∷ ys) (suc i) h e = pick_true (same y x) (member x ys) (member_at x ys i (omega arith) e)

-- where a tree stands in a list
pub record Stands (x : Tree) (ts : List Tree) : Type 0 where
  pub place : ℕ
  pub below : place < length ts
  pub is : get_or ts place nought ≡ x

stands_by : (x y : Tree) (ys : List Tree) (t : Bool) → same y x ≡ t → pick t true (member x ys) ≡ true → (member x ys ≡ true → Stands x ys) → Stands x (y ∷ ys)
stands_by x y ys true e h f = record { place = 0; below = omega arith; is = same_true y x e }
stands_by x y ys false e h f = let s = f h in record { place = suc s.place; below = omega (arith, s.below); is = s.is }

-- a member stands somewhere
pub member_stands : (x : Tree) (ts : List Tree) → member x ts ≡ true → Stands x ts
unfolding member
member_stands x [] h = let z : ◌≡◌ {A = ℕ} 0 1 = cc in absurd (omega arith)
member_stands x (y ∷ ys) h = stands_by x y ys (same y x) refl h (member_stands x ys)

-- What labels denote

-- a label in use denotes its tree
pub den_at : {l : List ℕ} {c : ℕ} (i : ℕ) → i < c → Den l c i (tree_of l c i)
den_at i h = record { below = h; is = refl }

-- what a label denotes, written out from its line
pub tree_is : {l : List ℕ} {c i : ℕ} {x : Tree} → Sound l c → length l ≡ 512 → Den l c i x → build (term_at l i) (trees l c) ≡ x
unfolding means
tree_is {i = i} S p D = sym (tree_at S p i D.below) ∙ D.is

-- what a label denotes is a tree of the table
pub den_member : {l : List ℕ} {c i : ℕ} {x : Tree} → Sound l c → length l ≡ 512 → Den l c i x → member x (trees l c) ≡ true
unfolding tree_of
den_member {l} {c} {i} {x} S p D = member_at x (trees l c) i (omega (arith, length_trees l c p S.room, D.below)) D.is

-- a tree of the table has a label
pub member_den : {l : List ℕ} {c : ℕ} → Sound l c → length l ≡ 512 → (x : Tree) → member x (trees l c) ≡ true → (i : ℕ) × Den l c i x
unfolding tree_of
member_den {l} {c} S p x h =
    let s = member_stands x (trees l c) h in
    (s.place, record { below = omega (arith, s.below, length_trees l c p S.room); is = s.is })

-- and only one
pub den_one : {l : List ℕ} {c i j : ℕ} {x : Tree} → Sound l c → length l ≡ 512 → Den l c i x → Den l c j x → i ≡ j
den_one {i} {j} S p D E = one_label S p i j D.below E.below (D.is ∙ sym E.is)
