-- What the term at a label says of the tree that the label denotes: its kind, its number, its parts.
use Prim.Native.Nat.{ℕ}
use mathlib.Core.Path.{◌≡◌, refl, sym, ap, ◌∙◌}
use mathlib.Core.Bool.{Bool, true, false}
use mathlib.Core.List.{List}
use native.Mathlib.Omega.{arith}
use lib.ListN.{length, get_or}
use lib.Dec.{eqb}
use borrow.Author.Tests.{eqb-true, eq-eqb, ne_eqb}
use Rattle.terms.specs.Term.{shape_of, parts_below}
use Rattle.terms.specs.Line.{term_at}
use Rattle.terms.specs.Sound.{Sound}
use Rattle.terms.specs.Tree.{Tree, leaf, nought, kind_of, same}
use Rattle.terms.specs.Meaning.{build, trees, tree_of, Den}
use Rattle.terms.specs.declared.term.Term.{Term}
use Rattle.terms.specs.declared.term.Shape.TheVariants.{Number, Sealed, Joined}
use Rattle.terms.proofs.Meaning.{part_sealed, part_first, part_second, parts_more}
use Rattle.terms.proofs.Labels.{kind_build, tree_is, same_eq, same_true, den_one}
use Rattle.law.specs.Act.{num_of, first_of, second_of}

num_leaf : (x : Term) (ts : List Tree) → shape_of x.kind ≡ Number → num_of (build x ts) ≡ x.a
unfolding build num_of
num_leaf x ts e = rw e

pub leaf_build : (x : Term) (ts : List Tree) → shape_of x.kind ≡ Number → build x ts ≡ leaf x.kind x.a
unfolding build
leaf_build x ts e = rw e

pub pair_shape : (k : ℕ) → eqb k 9 ≡ true → shape_of k ≡ Joined
unfolding shape_of
pair_shape k h = ap shape_of (eqb-true k 9 h)

num_sealed : (x : Term) (ts : List Tree) → shape_of x.kind ≡ Sealed → num_of (build x ts) ≡ x.b
unfolding build num_of
num_sealed x ts e = rw e

first_sealed : (x : Term) (ts : List Tree) → shape_of x.kind ≡ Sealed → first_of (build x ts) ≡ get_or ts x.a nought
unfolding build first_of
first_sealed x ts e = rw e

first_joined : (x : Term) (ts : List Tree) → shape_of x.kind ≡ Joined → first_of (build x ts) ≡ get_or ts x.a nought
unfolding build first_of
first_joined x ts e = rw e

second_joined : (x : Term) (ts : List Tree) → shape_of x.kind ≡ Joined → second_of (build x ts) ≡ get_or ts x.b nought
unfolding build second_of
second_joined x ts e = rw e

module _ {l : List ℕ} {c : ℕ} (sound : Sound l c) (long : length l ≡ 512) where
  parts_in : {i : ℕ} {x : Tree} → Den l c i x → parts_below (term_at l i) c ≡ true
  parts_in {i} d = let h = d.below in parts_more (term_at l i) i c (omega arith) (sound.parts i d.below)

  pub den_kind : {i : ℕ} {x : Tree} → Den l c i x → (term_at l i).kind ≡ kind_of x
  den_kind {i} d = sym (kind_build (term_at l i) (trees l c)) ∙ ap kind_of (tree_is sound long d)

  -- the number of a leaf, and of the key of a signature or an encryption
  pub den_number : {i : ℕ} {x : Tree} → Den l c i x → shape_of (term_at l i).kind ≡ Number → (term_at l i).a ≡ num_of x
  den_number {i} d e = sym (num_leaf (term_at l i) (trees l c) e) ∙ ap num_of (tree_is sound long d)

  pub den_leaf : {i : ℕ} {x : Tree} → Den l c i x → shape_of (term_at l i).kind ≡ Number → x ≡ leaf (term_at l i).kind (term_at l i).a
  den_leaf {i} d e = sym (tree_is sound long d) ∙ leaf_build (term_at l i) (trees l c) e

  pub den_key : {i : ℕ} {x : Tree} → Den l c i x → shape_of (term_at l i).kind ≡ Sealed → (term_at l i).b ≡ num_of x
  den_key {i} d e = sym (num_sealed (term_at l i) (trees l c) e) ∙ ap num_of (tree_is sound long d)

  -- the part that is signed or encrypted, and the parts of a pair
  pub den_inside : {i : ℕ} {x : Tree} → Den l c i x → shape_of (term_at l i).kind ≡ Sealed → Den l c (term_at l i).a (first_of x)
  unfolding tree_of
  den_inside {i} d e = record {
    below = part_sealed (term_at l i) c e (parts_in d);
    is = sym (first_sealed (term_at l i) (trees l c) e) ∙ ap first_of (tree_is sound long d);
  }

  pub den_first : {i : ℕ} {x : Tree} → Den l c i x → shape_of (term_at l i).kind ≡ Joined → Den l c (term_at l i).a (first_of x)
  unfolding tree_of
  den_first {i} d e = record {
    below = part_first (term_at l i) c e (parts_in d);
    is = sym (first_joined (term_at l i) (trees l c) e) ∙ ap first_of (tree_is sound long d);
  }

  pub den_second : {i : ℕ} {x : Tree} → Den l c i x → shape_of (term_at l i).kind ≡ Joined → Den l c (term_at l i).b (second_of x)
  unfolding tree_of
  den_second {i} d e = record {
    below = part_second (term_at l i) c e (parts_in d);
    is = sym (second_joined (term_at l i) (trees l c) e) ∙ ap second_of (tree_is sound long d);
  }

  -- equal labels exactly where the terms are the same
  same_by : {i j : ℕ} {x y : Tree} → Den l c i x → Den l c j y → (b : Bool) → same x y ≡ b → eqb i j ≡ b
  same_by {i} {j} {x} {y} d e true h =
      let q : x ≡ y = same_true x y h in
      let d' : Den l c i y = rw q at d in
      eq-eqb i j (den_one sound long d' e)
  same_by {i} {j} {x} {y} d e false h =
      ne_eqb i j (λ p. let q : x ≡ y = sym d.is ∙ ap (tree_of l c) p ∙ e.is in let t = same_eq x y q in let z : ◌≡◌ {A = ℕ} 0 1 = cc in omega arith)

  pub den_same : {i j : ℕ} {x y : Tree} → Den l c i x → Den l c j y → eqb i j ≡ same x y
  den_same {i} {j} {x} {y} d e = same_by d e (same x y) refl
