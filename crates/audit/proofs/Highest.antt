-- What the one pass over the table gives is the top of each term written out whole. So a test on tops is a test on all
-- variables inside a term, at any depth.
use Prim.Native.Nat.{ℕ, zero, suc, ◌+◌, ◌<◌, ◌≤◌, max}
use mathlib.Core.Path.{◌≡◌, refl, sym, ap, ap₂, ◌∙◌}
use mathlib.Core.Bool.{Bool, true, false}
use mathlib.Core.List.{List}
use native.Mathlib.Omega.{arith}
use lib.ListN.{length, get_or, set, replicate, length-set, length-replicate}
use lib.Seq.{get_or-set_same, get_or-set_other}
use lib.Dec.{ltb, eqb}
use borrow.Author.Tests.{ltb-true, lt-ltb, eqb-true, eqb-false}
use Rattle.terms.specs.Term.{shape_of, limits_by, in_limits, parts_by, parts_below}
use Rattle.terms.specs.Line.{term_at}
use Rattle.terms.specs.Sound.{Sound}
use Rattle.terms.specs.Tree.{Tree, leaf, nought}
use Rattle.terms.specs.Meaning.{build_by, build, trees, tree_of, means}
use Rattle.terms.specs.declared.term.Term.{Term}
use Rattle.terms.specs.declared.term.Shape.{Shape}
use Rattle.terms.specs.declared.term.Shape.TheVariants.{Bare, Number, Variable, Sealed, Hashed, Applied, Joined, Unknown}
use Rattle.terms.proofs.Meaning.{also_left, also_right, variable_six, other_six, tree_at, larger_max}
use Rattle.audit.specs.Tops.{topmost, past_of, top_at, top_by, top_of, tops_from, tops_of}

leaf_top : (k a : ℕ) → (shape_of k ≡ Variable → ⊥) → 0 ≡ topmost (leaf k a)
unfolding topmost
leaf_top k a f = rw (other_six k f)

variable_top : (k a : ℕ) → shape_of k ≡ Variable → a < 16 → past_of a ≡ topmost (leaf k a)
unfolding topmost past_of
variable_top k a e h = rw (variable_six k e, lt-ltb a 16 h)

-- of one term, if it holds of the parts
top_by_lem : (s : Shape) (k a b n : ℕ) (ks : List ℕ) (ts : List Tree) → shape_of k ≡ s → limits_by s a b ≡ true → parts_by s a b n ≡ true
    → ((j : ℕ) → j < n → top_at ks j ≡ topmost (get_or ts j nought)) → top_by s ks a b ≡ topmost (build_by s k a b ts)
unfolding topmost
top_by_lem Bare k a b n ks ts e u p f = leaf_top k a (λ h. let z : ◌≡◌ {A = ℕ} 0 1 = cc in omega arith)
top_by_lem Number k a b n ks ts e u p f = leaf_top k a (λ h. let z : ◌≡◌ {A = ℕ} 0 1 = cc in omega arith)
top_by_lem Variable k a b n ks ts e u p f = variable_top k a e (ltb-true a 16 (also_left (ltb a 16) (eqb b 0) u))
top_by_lem Sealed k a b n ks ts e u p f = f a (ltb-true a n p)
top_by_lem Hashed k a b n ks ts e u p f = f a (ltb-true a n p)
top_by_lem Applied k a b n ks ts e u p f = f b (ltb-true b n p)
top_by_lem Joined k a b n ks ts e u p f =
    let q = f a (ltb-true a n (also_left (ltb a n) (ltb b n) p)) in
    let r = f b (ltb-true b n (also_right (ltb a n) (ltb b n) p)) in
    larger_max (top_at ks a) (top_at ks b) ∙ ap₂ max q r
top_by_lem Unknown k a b n ks ts e u p f = leaf_top k a (λ h. let z : ◌≡◌ {A = ℕ} 0 1 = cc in omega arith)

-- the top of a term that keeps to its limits, with parts below n
pub top_means : (l : List ℕ) (c n : ℕ) (x : Term) (ks : List ℕ) → in_limits x ≡ true → parts_below x n ≡ true
    → ((j : ℕ) → j < n → top_at ks j ≡ topmost (tree_of l c j)) → top_of ks x ≡ topmost (means l c x)
unfolding top_of tree_of means build in_limits parts_below
top_means l c n x ks u p f = top_by_lem (shape_of x.kind) x.kind x.a x.b n ks (trees l c) refl u p f

pub top_in : (ks : List ℕ) (j : ℕ) → j < 512 → top_at ks j ≡ get_or ks j 0
unfolding top_at
top_in ks j h = rw (lt-ltb j 512 h)

module _ {l : List ℕ} {c : ℕ} (S : Sound l c) (long : length l ≡ 512) where
  one_top : (i : ℕ) → i < c → (ks : List ℕ) → ((j : ℕ) → j < i → top_at ks j ≡ topmost (tree_of l c j))
      → top_of ks (term_at l i) ≡ topmost (tree_of l c i)
  one_top i h ks f =
      top_means l c i (term_at l i) ks (S.limits i h) (S.parts i h) f ∙ ap topmost (sym (tree_at S long i h))

  abbrev Right : ℕ → List ℕ → Type 0
  Right i ks = (j : ℕ) → j < i → j < c → get_or ks j 0 ≡ topmost (tree_of l c j)

  -- one label more
  next_top : (i : ℕ) (ks : List ℕ) → length ks ≡ 512 → i < 512 → Right i ks
      → Right (i + 1) (set ks i (top_of ks (term_at l i)))
  next_top i ks e h f j k g = by (eqb j i) refl
    where
      by : (t : Bool) → eqb j i ≡ t → get_or (set ks i (top_of ks (term_at l i))) j 0 ≡ topmost (tree_of l c j)
      by true q =
          let z : i ≡ j = sym (eqb-true j i q) in
          let v : i < c = omega arith in
          let w : i < length ks = omega (arith, e) in
          ap (λ (x : ℕ). get_or (set ks i (top_of ks (term_at l i))) x 0) (sym z)
          ∙ get_or-set_same ks i (top_of ks (term_at l i)) 0 w
          ∙ one_top i v ks (λ x y. top_in ks x (omega arith) ∙ f x y (omega arith))
          ∙ ap (λ (x : ℕ). topmost (tree_of l c x)) z
      by false q =
          let z = eqb-false j i q in
          let v : j < i = omega (arith, z) in
          get_or-set_other ks i j (top_of ks (term_at l i)) 0 z ∙ f j v g

  tops_right : (n i : ℕ) (ks : List ℕ) → length ks ≡ 512 → i + n ≤ 512 → Right i ks → Right (i + n) (tops_from n i l ks)
  unfolding tops_from
  tops_right zero i ks e h f j k g = f j (omega arith) g
  tops_right (suc n) i ks e h f j k g =
      let x = top_of ks (term_at l i) in
      tops_right n (i + 1) (set ks i x) (length-set ks i x ∙ e) (omega arith) (next_top i ks e (omega arith) f)
      j (omega arith) g

  -- the top of a label is that of what it denotes
  pub top_right : (i : ℕ) → i < c → top_at (tops_of l) i ≡ topmost (tree_of l c i)
  unfolding tops_of
  top_right i h =
      let r = S.room in
      top_in (tops_from 512 0 l (replicate 512 0)) i (omega arith)
      ∙ tops_right 512 0 (replicate 512 0) (length-replicate {A = ℕ} 512 0) (omega arith) (λ j k g. absurd (omega arith)) i (omega arith) h
