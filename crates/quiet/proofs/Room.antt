-- How many terms entering the operands of an action can add, on trees alone: at most as many as are listed. A term that stands
-- with all its parts adds nothing; a listed term with values put for its variables adds nothing but such terms, each of them one
-- of as many as are listed.
use Prim.Native.Nat.{ℕ, ◌+◌, ◌<◌, ◌≤◌}
use native.Mathlib.Nat.{le_trans}
use mathlib.Core.Path.{◌≡◌, refl, ap, ◌∙◌}
use mathlib.Core.Bool.{Bool, true, false, not}
use mathlib.Core.List.{List, [], ◌∷◌, ◌++◌, map}
use native.Mathlib.Omega.{arith}
use lib.ListN.{length, get_or, length-append, length-map}
use lib.Dec.{eqb}
use Rattle.terms.specs.Base.{pick}
use Rattle.terms.specs.Line.{bit_of}
use Rattle.terms.specs.Tree.{Tree, leaf, sealed, applied, joined, nought, subst_t, same, member, with, enter}
use Rattle.terms.proofs.Labels.{same_true, same_eq}
use Rattle.terms.proofs.Enter.{pick_same, member_left, member_right, member_here, with_known, with_has}
use Rattle.terms.proofs.Enter.{Longer, longer_same, longer_then, longer_member, with_longer, enter_longer, Parts, Whole}

-- a tree stands in ks with all its parts
pub data Inside (ks : List Tree) : Tree → Type 0 where
  bare : {k a : ℕ} → member (leaf k a) ks ≡ true → Inside ks (leaf k a)
  first : {k n : ℕ} {x : Tree} → Inside ks x → member (sealed k x n) ks ≡ true → Inside ks (sealed k x n)
  second : {k f : ℕ} {x : Tree} → Inside ks x → member (applied k f x) ks ≡ true → Inside ks (applied k f x)
  both : {k : ℕ} {x y : Tree} → Inside ks x → Inside ks y → member (joined k x y) ks ≡ true → Inside ks (joined k x y)

-- it adds nothing
pub inside_enters : {ks : List Tree} {x : Tree} → Inside ks x → enter ks x ≡ ks
unfolding enter
inside_enters {ks} (bare {k} {a} h) = with_known ks (leaf k a) h
inside_enters {ks} (first {k} {n} {x} p h) = rw (inside_enters p) (with_known ks (sealed k x n) h)
inside_enters {ks} (second {k} {f} {x} p h) = rw (inside_enters p) (with_known ks (applied k f x) h)
inside_enters {ks} (both {k} {x} {y} p q h) = rw (inside_enters p, inside_enters q) (with_known ks (joined k x y) h)

-- and stays so when more is known
pub inside_more : {ks ls : List Tree} {x : Tree} → Longer ks ls → Inside ks x → Inside ls x
inside_more g (bare {k} {a} h) = bare (longer_member g (leaf k a) h)
inside_more g (first {k} {n} {x} p h) = first (inside_more g p) (longer_member g (sealed k x n) h)
inside_more g (second {k} {f} {x} p h) = second (inside_more g p) (longer_member g (applied k f x) h)
inside_more g (both {k} {x} {y} p q h) = both (inside_more g p) (inside_more g q) (longer_member g (joined k x y) h)

-- what was entered stands with its parts
pub enter_inside : (ks : List Tree) (x : Tree) → Inside (enter ks x) x
unfolding enter
enter_inside ks (leaf k a) = bare (with_has ks (leaf k a))
enter_inside ks (sealed k x n) = first (inside_more (with_longer (enter ks x) (sealed k x n)) (enter_inside ks x)) (with_has (enter ks x) (sealed k x n))
enter_inside ks (applied k f x) = second (inside_more (with_longer (enter ks x) (applied k f x)) (enter_inside ks x)) (with_has (enter ks x) (applied k f x))
enter_inside ks (joined k x y) =
    let g = with_longer (enter (enter ks x) y) (joined k x y) in
    both (inside_more g (inside_more (enter_longer (enter ks x) y) (enter_inside ks x))) (inside_more g (enter_inside (enter ks x) y))
    (with_has (enter (enter ks x) y) (joined k x y))

-- so does each of the terms of a table
whole_parts : {ks : List Tree} → Whole ks → (x : Tree) → Parts ks x → member x ks ≡ true → Inside ks x
whole_parts w (leaf k a) Parts.bare h = bare h
whole_parts w (sealed k x n) (Parts.first p) h = first (whole_parts w x (w.parts x p) p) h
whole_parts w (applied k f x) (Parts.second p) h = second (whole_parts w x (w.parts x p) p) h
whole_parts w (joined k x y) (Parts.both p q) h = both (whole_parts w x (w.parts x p) p) (whole_parts w y (w.parts y q) q) h

pub whole_inside : {ks : List Tree} → Whole ks → (x : Tree) → member x ks ≡ true → Inside ks x
whole_inside w x h = whole_parts w x (w.parts x h) h

-- how many of zs are no members of ks
abbrev pub missing : List Tree → List Tree → ℕ
missing [] ks = 0
missing (z ∷ zs) ks = bit_of (not (member z ks)) + missing zs ks

bit_most : (p : Bool) → bit_of (not p) ≤ 1
bit_most true = omega arith
bit_most false = omega arith

pub missing_most : (zs ks : List Tree) → missing zs ks ≤ length zs
missing_most [] ks = omega arith
missing_most (z ∷ zs) ks = let a = missing_most zs ks in let b = bit_most (member z ks) in omega arith

bit_falls : (p q : Bool) → (p ≡ true → q ≡ true) → bit_of (not q) ≤ bit_of (not p)
bit_falls true q f = rw (f refl) (omega arith)
bit_falls false q f = bit_most q

missing_falls : (zs ks : List Tree) (y : Tree) → missing zs (ks ++ (y ∷ [])) ≤ missing zs ks
missing_falls [] ks y = omega arith
missing_falls (z ∷ zs) ks y =
    let a = missing_falls zs ks y in
    let b = bit_falls (member z ks) (member z (ks ++ (y ∷ []))) (member_left z ks (y ∷ [])) in
    omega arith

-- one of them, where it was missing, is missing no more
missing_found : (zs ks : List Tree) (y : Tree) → member y zs ≡ true → member y ks ≡ false → missing zs (ks ++ (y ∷ [])) < missing zs ks
unfolding member
missing_found [] ks y h n = let z : ◌≡◌ {A = ℕ} 0 1 = cc in absurd (omega arith)
missing_found (z ∷ zs) ks y h n = go (same z y) refl h (λ q. missing_found zs ks y q n)
  where
    go : (b : Bool) → same z y ≡ b → pick b true (member y zs) ≡ true → (member y zs ≡ true → missing zs (ks ++ (y ∷ [])) < missing zs ks)
        → missing (z ∷ zs) (ks ++ (y ∷ [])) < missing (z ∷ zs) ks
    go true e q ih =
        let s : z ≡ y = same_true z y e in
        let a : member z ks ≡ false = ap (λ (x : Tree). member x ks) s ∙ n in
        let b : member z (ks ++ (y ∷ [])) ≡ true = ap (λ (x : Tree). member x (ks ++ (y ∷ []))) s ∙ member_right y ks (y ∷ []) (member_here y []) in
        let r = missing_falls zs ks y in
        rw (a, b) (omega arith)
    go false e q ih =
        let r = ih q in
        let b = bit_falls (member z ks) (member z (ks ++ (y ∷ []))) (member_left z ks (y ∷ [])) in
        omega arith

-- what is known and what is missing of zs, together
abbrev pub total : List Tree → List Tree → ℕ
total zs ks = length ks + missing zs ks

-- entering one of zs does not raise it
with_total : (zs ks : List Tree) (y : Tree) → member y zs ≡ true → total zs (with ks y) ≤ total zs ks
unfolding with
with_total zs ks y h = go (member y ks) refl
  where
    go : (b : Bool) → member y ks ≡ b → total zs (pick b ks (ks ++ (y ∷ []))) ≤ total zs ks
    go true e = omega arith
    go false e =
        let a = missing_found zs ks y h e in
        let b : length (ks ++ (y ∷ [])) ≡ length ks + 1 = length-append ks (y ∷ []) in
        omega arith

-- values put for the variables of a member
pub member_map : (f : Tree → Tree) (x : Tree) (ts : List Tree) → member x ts ≡ true → member (f x) (map f ts) ≡ true
unfolding member
member_map f x [] h = h
member_map f x (t ∷ ts) h = go (same t x) refl h (member_map f x ts)
  where
    go : (b : Bool) → same t x ≡ b → pick b true (member x ts) ≡ true → (member x ts ≡ true → member (f x) (map f ts) ≡ true)
        → pick (same (f t) (f x)) true (member (f x) (map f ts)) ≡ true
    go true e q ih = rw (same_eq (f t) (f x) (ap f (same_true t x e)))
    go false e q ih = rw (ih q) (pick_same (same (f t) (f x)))

-- ts are the listed terms, ws the values, all of them with their parts in ks₀
module _ (ts ks₀ ws : List Tree) (o : ℕ) (listed : Whole ts) (values : (i : ℕ) → Inside ks₀ (get_or ws i nought)) where
  abbrev images : List Tree
  images = map (subst_t ws o) ts

  image : (x : Tree) → member x ts ≡ true → member (subst_t ws o x) images ≡ true
  image x h = member_map (subst_t ws o) x ts h

  leaf_total : (ks : List Tree) → Longer ks₀ ks → (k a : ℕ) → member (leaf k a) ts ≡ true → total images (enter ks (subst_t ws o (leaf k a))) ≤ total images ks
  unfolding subst_t enter
  leaf_total ks g k a h = go (eqb k 6) (image (leaf k a) h)
    where
      go : (b : Bool) → member (pick b (get_or ws (o + a) nought) (leaf k a)) images ≡ true
          → total images (enter ks (pick b (get_or ws (o + a) nought) (leaf k a))) ≤ total images ks
      go true q = rw (inside_enters (inside_more g (values (o + a)))) (omega arith)
      go false q = with_total images ks (leaf k a) q

  enter_total : (ks : List Tree) → Longer ks₀ ks → (x : Tree) → Parts ts x → member x ts ≡ true → total images (enter ks (subst_t ws o x)) ≤ total images ks
  unfolding subst_t enter
  enter_total ks g (leaf k a) p h = leaf_total ks g k a h
  enter_total ks g (sealed k x n) (Parts.first p) h =
      le_trans (with_total images (enter ks (subst_t ws o x)) (sealed k (subst_t ws o x) n) (image (sealed k x n) h)) (enter_total ks g x (listed.parts x p) p)
  enter_total ks g (applied k f x) (Parts.second p) h =
      le_trans (with_total images (enter ks (subst_t ws o x)) (applied k f (subst_t ws o x)) (image (applied k f x) h)) (enter_total ks g x (listed.parts x p) p)
  enter_total ks g (joined k x y) (Parts.both p q) h =
      let g2 = longer_then g (enter_longer ks (subst_t ws o x)) in
      le_trans (with_total images (enter (enter ks (subst_t ws o x)) (subst_t ws o y)) (joined k (subst_t ws o x) (subst_t ws o y)) (image (joined k x y) h))
      (le_trans (enter_total (enter ks (subst_t ws o x)) g2 y (listed.parts y q) q) (enter_total ks g x (listed.parts x p) p))

  -- both operands of an action: at most as many new terms as are listed
  pub both_enter : (x y : Tree) → member x ts ≡ true → member y ts ≡ true
      → length (enter (enter ks₀ (subst_t ws o x)) (subst_t ws o y)) ≤ length ks₀ + length ts
  both_enter x y h k =
      let a = enter_total ks₀ (longer_same ks₀) x (listed.parts x h) h in
      let b = enter_total (enter ks₀ (subst_t ws o x)) (enter_longer ks₀ (subst_t ws o x)) y (listed.parts y k) k in
      let c = missing_most images ks₀ in
      let e : length images ≡ length ts = length-map ts (subst_t ws o) in
      omega (arith, a, b, c, e)
