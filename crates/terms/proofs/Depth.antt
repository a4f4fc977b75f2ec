-- What a substitution does at a label, said on trees; and the depth of its result, which is asked before anything is entered.
-- `goes` reads the plan at a label once for both walks: this one, and the one of Substs.antt that enters terms.
use Prim.Native.Nat.{ℕ, zero, suc, ◌+◌, ◌<◌, ◌≤◌, max}
use mathlib.Core.Path.{◌≡◌, refl, sym, ap, ◌∙◌, subst}
use mathlib.Core.Bool.{Bool, true, false}
use mathlib.Core.List.{List}
use native.Mathlib.Omega.{arith}
use native.Mathlib.Numerals.{add-one}
use lib.ListN.{length, get_or}
use lib.Dec.{eqb, leb, leb-suc-suc}
use borrow.Author.Tests.{lt-ltb, le-leb, lt-leb, leb-true, leb-false}
use Rattle.terms.specs.Base.{pick}
use Rattle.terms.specs.Term.{term, shape_of, in_limits, parts_below}
use Rattle.terms.specs.Line.{line_at, term_at, depth_in, ground_in}
use Rattle.terms.specs.Subst.{plan_by, plan_at, fits_by, fits_within}
use Rattle.terms.specs.Sound.{Sound}
use Rattle.terms.specs.Tree.{Tree, leaf, sealed, applied, joined, nought, deepness, is_ground, subst_t, enter}
use Rattle.terms.specs.Meaning.{build_by, build, trees, tree_of, Den}
use Rattle.terms.specs.Promise.{Fit, Each, none, one}
use Rattle.terms.specs.declared.term.Term.{Term}
use Rattle.terms.specs.declared.term.Shape.{Shape}
use Rattle.terms.specs.declared.term.Shape.TheVariants.{Bare, Number, Variable, Sealed, Hashed, Applied, Joined, Unknown}
use Rattle.terms.specs.declared.subst.Plan.{Plan}
use Rattle.terms.specs.declared.subst.Plan.TheVariants.{Keep, First, Second, Both}
use Rattle.terms.proofs.Pack.{term_small}
use Rattle.terms.proofs.Meaning.{depth_right, ground_right, part_sealed, part_hashed, part_applied, part_first, part_second, parts_more, variable_six, other_six}
use Rattle.terms.proofs.Labels.{den_at, tree_is, den_member, member_den}
use Rattle.terms.proofs.Growth.{den_nought}
use Rattle.terms.proofs.Enter.{Parts, bare, first, second, both, Whole, enter_known, deepness_some, subst_of_ground}

-- a value and its tree stand at the same place, label 0 and number 0 where there is none
pub each_at : {l : List ℕ} {c : ℕ} {vs : List ℕ} {ws : List Tree} → Den l c 0 nought → Each (Den l c) vs ws → (i : ℕ) → Den l c (get_or vs i 0) (get_or ws i nought)
each_at z none i = z
each_at z (one p ps) zero = p
each_at z (one p ps) (suc i) = each_at z ps i

-- terms of one shape: with any label for a part they may be entered, and are trees of that shape
pub record Seals (k n : ℕ) : Type 0 where
  pub fit : (j d : ℕ) → j < d → d ≤ 512 → Fit (term k j n) d
  pub is : (j : ℕ) (ts : List Tree) → build (term k j n) ts ≡ sealed k (get_or ts j nought) n

-- a function applied to a part
pub record Applies (k f : ℕ) : Type 0 where
  pub fit : (j d : ℕ) → j < d → d ≤ 512 → Fit (term k f j) d
  pub is : (j : ℕ) (ts : List Tree) → build (term k f j) ts ≡ applied k f (get_or ts j nought)

-- two parts
pub record Joins (k : ℕ) : Type 0 where
  pub fit : (i j d : ℕ) → i < d → j < d → d ≤ 512 → Fit (term k i j) d
  pub is : (i j : ℕ) (ts : List Tree) → build (term k i j) ts ≡ joined k (get_or ts i nought) (get_or ts j nought)

-- the plan at label i, which denotes x: what is kept denotes the result, what is gone down are the parts
pub data Goes (l : List ℕ) (c : ℕ) (ws : List Tree) (o i : ℕ) : Plan → Tree → Type 0 where
  keeps : {j : ℕ} {x : Tree} → Den l c j (subst_t ws o x) → Goes l c ws o i (Keep j) x
  goes_first : {a : ℕ} {y : Tree} → Den l c a y → Seals (term_at l i).kind (term_at l i).b → Goes l c ws o i (First a) (sealed (term_at l i).kind y (term_at l i).b)
  goes_second : {b : ℕ} {y : Tree} → Den l c b y → Applies (term_at l i).kind (term_at l i).a → Goes l c ws o i (Second b) (applied (term_at l i).kind (term_at l i).a y)
  goes_both : {a b : ℕ} {y z : Tree} → Den l c a y → Den l c b z → Joins (term_at l i).kind → Goes l c ws o i (Both a b) (joined (term_at l i).kind y z)

-- the shape of a term gives which of the three it is
module _ (x : Term) (small : x.kind < 256) where
  pub seals_sealed : shape_of x.kind ≡ Sealed → x.b < 65536 → Seals x.kind x.b
  unfolding in_limits parts_below build
  seals_sealed e h = record {
    fit = λ j d p q. record { limits = rw e; parts = rw e (lt-ltb j d p); kind = small; first = omega arith; second = h };
    is = λ j ts. rw e;
  }

  pub seals_hashed : shape_of x.kind ≡ Hashed → x.b < 65536 → in_limits x ≡ true → Seals x.kind x.b
  unfolding in_limits parts_below build
  seals_hashed e h t = record {
    fit = λ j d p q. record { limits = rw e (rw e at t); parts = rw e (lt-ltb j d p); kind = small; first = omega arith; second = h };
    is = λ j ts. rw e;
  }

  pub applies : shape_of x.kind ≡ Applied → x.a < 65536 → in_limits x ≡ true → Applies x.kind x.a
  unfolding in_limits parts_below build
  applies e h t = record {
    fit = λ j d p q. record { limits = rw e (rw e at t); parts = rw e (lt-ltb j d p); kind = small; first = h; second = omega arith };
    is = λ j ts. rw e;
  }

  pub joins : shape_of x.kind ≡ Joined → Joins x.kind
  unfolding in_limits parts_below build
  joins e = record {
    fit = λ i j d p r q. record { limits = rw e; parts = rw (e, lt-ltb i d p, lt-ltb j d r); kind = small; first = omega arith; second = omega arith };
    is = λ i j ts. rw e;
  }

-- tests one level up, and of the deeper of two
leb_up : (d n : ℕ) → leb (d + 1) (suc n) ≡ leb d n
leb_up d n = rw add-one (leb-suc-suc d n)

leb_max : (d e n : ℕ) → pick (leb d n) (leb e n) false ≡ leb (max d e + 1) (suc n)
leb_max d e n = go (leb d n) (leb e n) refl refl ∙ sym (leb_up (max d e) n)
  where
    go : (p q : Bool) → leb d n ≡ p → leb e n ≡ q → pick p q false ≡ leb (max d e) n
    go true true f g = let h : d ≤ n = leb-true d n f in let k : e ≤ n = leb-true e n g in sym (le-leb (max d e) n (omega arith))
    go true false f g = let k : n < e = leb-false e n g in sym (lt-leb (max d e) n (omega arith))
    go false q f g = let h : n < d = leb-false d n f in sym (lt-leb (max d e) n (omega arith))

module _ {l : List ℕ} {c : ℕ} (sound : Sound l c) (long : length l ≡ 512) where
  -- a label's parts are labels
  module _ (i : ℕ) (h : i < c) where
    parts_in : parts_below (term_at l i) c ≡ true
    parts_in = parts_more (term_at l i) i c (omega arith) (sound.parts i h)

    den_a : (term_at l i).a < c → Den l c (term_at l i).a (get_or (trees l c) (term_at l i).a nought)
    unfolding tree_of
    den_a p = den_at (term_at l i).a p

    den_b : (term_at l i).b < c → Den l c (term_at l i).b (get_or (trees l c) (term_at l i).b nought)
    unfolding tree_of
    den_b p = den_at (term_at l i).b p

    parts_by_lem : (s : Shape) → shape_of (term_at l i).kind ≡ s → Parts (trees l c) (build_by s (term_at l i).kind (term_at l i).a (term_at l i).b (trees l c))
    parts_by_lem Bare e = bare
    parts_by_lem Number e = bare
    parts_by_lem Variable e = bare
    parts_by_lem Sealed e = first (den_member sound long (den_a (part_sealed (term_at l i) c e parts_in)))
    parts_by_lem Hashed e = first (den_member sound long (den_a (part_hashed (term_at l i) c e parts_in)))
    parts_by_lem Applied e = second (den_member sound long (den_b (part_applied (term_at l i) c e parts_in)))
    parts_by_lem Joined e = both (den_member sound long (den_a (part_first (term_at l i) c e parts_in))) (den_member sound long (den_b (part_second (term_at l i) c e parts_in)))
    parts_by_lem Unknown e = bare

    parts_at : Parts (trees l c) (build (term_at l i) (trees l c))
    unfolding build
    parts_at = parts_by_lem (shape_of (term_at l i).kind) refl

  -- the terms of a table hold all their parts
  pub trees_whole : Whole (trees l c)
  trees_whole = record {
    parts = λ x m. let p = member_den sound long x m in subst (Parts (trees l c)) (tree_is sound long p.1) (parts_at p.0 p.1.below);
  }

  -- so a tree that a label denotes enters nothing
  pub den_enters : {i : ℕ} {x : Tree} → Den l c i x → enter (trees l c) x ≡ trees l c
  den_enters {x = x} d = enter_known trees_whole x (den_member sound long d)

  -- a label's depth is that of its tree
  pub den_depth : {i : ℕ} {x : Tree} → Den l c i x → depth_in (line_at l i) ≡ deepness x
  den_depth {i} d = depth_right sound long i d.below ∙ ap deepness d.is

  module _ {vs : List ℕ} {ws : List Tree} (vals : Each (Den l c) vs ws) (o : ℕ) where
    -- a leaf that is no variable is kept, a variable is its value
    keeps_leaf : (i k a : ℕ) → eqb k 6 ≡ false → Den l c i (leaf k a) → Goes l c ws o i (Keep i) (leaf k a)
    unfolding subst_t
    keeps_leaf i k a e d = keeps {j = i} {x = leaf k a} (rw e d)

    keeps_value : (i k a : ℕ) → eqb k 6 ≡ true → Goes l c ws o i (Keep (get_or vs (o + a) 0)) (leaf k a)
    unfolding subst_t
    keeps_value i k a e = keeps {j = get_or vs (o + a) 0} {x = leaf k a} (rw e (each_at (den_nought sound long) vals (o + a)))

    goes_by : (i : ℕ) → i < c → (s : Shape) → shape_of (term_at l i).kind ≡ s
        → Den l c i (build_by s (term_at l i).kind (term_at l i).a (term_at l i).b (trees l c))
        → Goes l c ws o i (plan_by s (term_at l i) vs o i) (build_by s (term_at l i).kind (term_at l i).a (term_at l i).b (trees l c))
    goes_by i h Bare e d = keeps_leaf i (term_at l i).kind (term_at l i).a (other_six (term_at l i).kind (λ v. let z : ◌≡◌ {A = ℕ} 0 1 = cc in omega arith)) d
    goes_by i h Number e d = keeps_leaf i (term_at l i).kind (term_at l i).a (other_six (term_at l i).kind (λ v. let z : ◌≡◌ {A = ℕ} 0 1 = cc in omega arith)) d
    goes_by i h Variable e d = keeps_value i (term_at l i).kind (term_at l i).a (variable_six (term_at l i).kind e)
    goes_by i h Sealed e d =
        let s = term_small (line_at l i) in
        goes_first (den_a i h (part_sealed (term_at l i) c e (parts_in i h))) (seals_sealed (term_at l i) s.kind e s.second)
    goes_by i h Hashed e d =
        let s = term_small (line_at l i) in
        goes_first (den_a i h (part_hashed (term_at l i) c e (parts_in i h))) (seals_hashed (term_at l i) s.kind e s.second (sound.limits i h))
    goes_by i h Applied e d =
        let s = term_small (line_at l i) in
        goes_second (den_b i h (part_applied (term_at l i) c e (parts_in i h))) (applies (term_at l i) s.kind e s.first (sound.limits i h))
    goes_by i h Joined e d =
        let s = term_small (line_at l i) in
        goes_both (den_a i h (part_first (term_at l i) c e (parts_in i h))) (den_b i h (part_second (term_at l i) c e (parts_in i h))) (joins (term_at l i) s.kind e)
    goes_by i h Unknown e d = keeps_leaf i (term_at l i).kind (term_at l i).a (other_six (term_at l i).kind (λ v. let z : ◌≡◌ {A = ℕ} 0 1 = cc in omega arith)) d

    goes_term : (i : ℕ) → i < c → Den l c i (build (term_at l i) (trees l c))
        → Goes l c ws o i (plan_by (shape_of (term_at l i).kind) (term_at l i) vs o i) (build (term_at l i) (trees l c))
    unfolding build
    goes_term i h d = goes_by i h (shape_of (term_at l i).kind) refl d

    -- the plan at a label that denotes x
    pub goes : (i : ℕ) (x : Tree) → Den l c i x → Goes l c ws o i (plan_at l vs o i) x
    unfolding plan_at
    goes i x d = go (ground_in (line_at l i)) refl
      where
        go : (b : Bool) → ground_in (line_at l i) ≡ b → Goes l c ws o i (pick b (Keep i) (plan_by (shape_of (term_at l i).kind) (term_at l i) vs o i)) x
        go true e =
            let g : is_ground x ≡ true = ap is_ground (sym d.is) ∙ sym (ground_right sound long i d.below) ∙ e in
            keeps {j = i} {x = x} (rw (subst_of_ground ws o x g) d)
        go false e =
            let t : build (term_at l i) (trees l c) ≡ x = tree_is sound long d in
            subst (Goes l c ws o i (plan_by (shape_of (term_at l i).kind) (term_at l i) vs o i)) t (goes_term i d.below (rw t d))

    -- the depth of the result, by the plan
    fits_by_lem : (n i : ℕ) {p : Plan} {x : Tree} (deeper : ℕ → Bool) → ((j : ℕ) (y : Tree) → Den l c j y → deeper j ≡ leb (deepness (subst_t ws o y)) n)
        → Goes l c ws o i p x → fits_by p l (suc n) deeper ≡ leb (deepness (subst_t ws o x)) (suc n)
    unfolding subst_t deepness
    fits_by_lem n i deeper ih (keeps d) = rw (den_depth d)
    fits_by_lem n i deeper ih (goes_first d s) = ih _ _ d ∙ sym (leb_up _ n)
    fits_by_lem n i deeper ih (goes_second d s) = ih _ _ d ∙ sym (leb_up _ n)
    fits_by_lem n i deeper ih (goes_both {a = a} {b = b} {y = y} {z = z} d e s) = rw (ih a y d, ih b z e) (leb_max (deepness (subst_t ws o y)) (deepness (subst_t ws o z)) n)

    -- where label i denotes x
    pub fits_den : (n i : ℕ) (x : Tree) → Den l c i x → fits_within n l vs o i ≡ leb (deepness (subst_t ws o x)) n
    unfolding fits_within
    fits_den zero i x d = sym (lt-leb _ _ (deepness_some (subst_t ws o x)))
    fits_den (suc n) i x d = fits_by_lem n i (λ j. fits_within n l vs o j) (fits_den n) (goes i x d)

-- the result of a substitution is at most n deep exactly when `fits_within n` says so
pub fits_exact : {l : List ℕ} {c : ℕ} {vs : List ℕ} {ws : List Tree} → Sound l c → length l ≡ 512 → Each (Den l c) vs ws
    → (o n i : ℕ) → i < c → fits_within n l vs o i ≡ leb (deepness (subst_t ws o (tree_of l c i))) n
fits_exact sound long vals o n i h = fits_den sound long vals o n i _ (den_at i h)
