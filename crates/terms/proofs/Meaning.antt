-- What labels denote in a sound table: the tree of the line, of the depth and ground mark that the line says.
use Prim.Native.Nat.{ℕ, zero, suc, ◌+◌, ◌<◌, ◌≤◌, max}
use mathlib.Core.Path.{◌≡◌, refl, sym, ap, ap₂, ◌∙◌}
use mathlib.Core.Bool.{Bool, true, false}
use mathlib.Core.List.{List, [], ◌∷◌, ◌++◌}
use native.Mathlib.Omega.{arith}
use lib.ListN.{length, get_or, take, drop, length-append, take-append-drop, get_or-append}
use lib.Seq.{take-suc, take-take, get_or_at, length-take-le}
use lib.Dec.{ltb, eqb}
use borrow.Author.Tests.{ltb-true, ltb-false, lt-ltb, ne_eqb}
use Rattle.terms.specs.Base.{pick, also, larger_of}
use Rattle.terms.specs.Term.{shape_of, parts_by, parts_below}
use Rattle.terms.specs.Line.{term_in, depth_in, ground_in, line_at, term_at}
use Rattle.terms.specs.Grade.{above_line, above_both, grade_by, grade_of}
use Rattle.terms.specs.Sound.{Sound}
use Rattle.terms.specs.Tree.{Tree, leaf, sealed, applied, joined, nought, deepness, is_ground}
use Rattle.terms.specs.Meaning.{build_by, build, trees_from, trees, tree_of, means}
use Rattle.terms.specs.declared.term.Term.{Term}
use Rattle.terms.specs.declared.term.Shape.{Shape}
use Rattle.terms.specs.declared.term.Shape.TheVariants.{Bare, Number, Variable, Sealed, Hashed, Applied, Joined, Unknown}
use Rattle.terms.proofs.Pack.{term_small, depth_packed, ground_packed}

-- Trees, line by line

from_append : (ts : List Tree) (ns ms : List ℕ) → trees_from ts (ns ++ ms) ≡ trees_from (trees_from ts ns) ms
unfolding trees_from
from_append ts [] ms = refl
from_append ts (n ∷ ns) ms = from_append (ts ++ (build (term_in n) ts ∷ [])) ns ms

from_length : (ts : List Tree) (ns : List ℕ) → length (trees_from ts ns) ≡ length ts + length ns
unfolding trees_from
from_length ts [] = omega arith
from_length ts (n ∷ ns) =
    let h = from_length (ts ++ (build (term_in n) ts ∷ [])) ns in
    let g = length-append ts (build (term_in n) ts ∷ []) in
    omega (arith, h, g)

-- the trees of the lines before stay
from_keeps : (ts : List Tree) (ns : List ℕ) (i : ℕ) → i < length ts → get_or (trees_from ts ns) i nought ≡ get_or ts i nought
unfolding trees_from
from_keeps ts [] i h = refl
from_keeps ts (n ∷ ns) i h =
    let g = length-append ts (build (term_in n) ts ∷ []) in
    from_keeps (ts ++ (build (term_in n) ts ∷ [])) ns i (omega (arith, h, g)) ∙ get_or-append ts (build (term_in n) ts ∷ []) nought i h

-- one tree a label
pub length_trees : (l : List ℕ) (c : ℕ) → length l ≡ 512 → c ≤ 512 → length (trees l c) ≡ c
unfolding trees
length_trees l c p h = from_length [] (take c l) ∙ omega (arith, length-take-le c l (omega arith))

-- one more line is one more tree
pub trees_next : (l : List ℕ) (i : ℕ) → i < length l → trees l (suc i) ≡ trees l i ++ (means l i (term_at l i) ∷ [])
unfolding trees means trees_from
trees_next l i h = ap (trees_from []) (take-suc l i 0 h) ∙ from_append [] (take i l) (get_or l i 0 ∷ [])

pub tree_below : (l : List ℕ) (i c : ℕ) → i ≤ c → c ≤ length l → (j : ℕ) → j < i → tree_of l c j ≡ tree_of l i j
unfolding tree_of trees
tree_below l i c h g j k =
    let s : take c l ≡ take i l ++ drop i (take c l) = sym (take-append-drop i (take c l)) ∙ ap (λ (r : List ℕ). r ++ drop i (take c l)) (take-take i c l h) in
    let n = from_length [] (take i l) in
    let m = length-take-le i l (omega arith) in
    ap (λ (r : List ℕ). get_or (trees_from [] r) j nought) s
    ∙ ap (λ (r : List Tree). get_or r j nought) (from_append [] (take i l) (drop i (take c l)))
    ∙ from_keeps (trees_from [] (take i l)) (drop i (take c l)) j (omega (arith, n, m, k))

tree_last : (l : List ℕ) (i : ℕ) → length l ≡ 512 → i < 512 → tree_of l (suc i) i ≡ means l i (term_at l i)
unfolding tree_of
tree_last l i p h =
    ap (λ (r : List Tree). get_or r i nought) (trees_next l i (omega arith))
    ∙ get_or_at (trees l i) (means l i (term_at l i)) [] nought i (length_trees l i p (omega arith))

tree_built : (l : List ℕ) (i c : ℕ) → length l ≡ 512 → i < c → c ≤ 512 → tree_of l c i ≡ means l i (term_at l i)
tree_built l i c p h g = tree_below l (suc i) c (omega arith) (omega arith) i (omega arith) ∙ tree_last l i p (omega arith)

-- Parts of a term, by its shape

-- both tests hold: the first, the second, and back
pub also_left : (p q : Bool) → also p q ≡ true → p ≡ true
also_left true q h = refl
also_left false q h = h

pub also_right : (p q : Bool) → also p q ≡ true → q ≡ true
also_right true q h = h
also_right false q h = let z : ◌≡◌ {A = ℕ} 0 1 = cc in absurd (omega arith)

pub also_both : {p q : Bool} → p ≡ true → q ≡ true → also p q ≡ true
also_both h g = rw (h, g)

-- which fields are parts, by shape: then they are labels below n
pub part_sealed : (x : Term) (n : ℕ) → shape_of x.kind ≡ Sealed → parts_below x n ≡ true → x.a < n
unfolding parts_below
part_sealed x n h p = ltb-true x.a n (rw h at p)

pub part_hashed : (x : Term) (n : ℕ) → shape_of x.kind ≡ Hashed → parts_below x n ≡ true → x.a < n
unfolding parts_below
part_hashed x n h p = ltb-true x.a n (rw h at p)

pub part_applied : (x : Term) (n : ℕ) → shape_of x.kind ≡ Applied → parts_below x n ≡ true → x.b < n
unfolding parts_below
part_applied x n h p = ltb-true x.b n (rw h at p)

pub part_first : (x : Term) (n : ℕ) → shape_of x.kind ≡ Joined → parts_below x n ≡ true → x.a < n
unfolding parts_below
part_first x n h p = ltb-true x.a n (also_left (ltb x.a n) (ltb x.b n) (rw h at p))

pub part_second : (x : Term) (n : ℕ) → shape_of x.kind ≡ Joined → parts_below x n ≡ true → x.b < n
unfolding parts_below
part_second x n h p = ltb-true x.b n (also_right (ltb x.a n) (ltb x.b n) (rw h at p))

more_by : (s : Shape) (a b i c : ℕ) → i ≤ c → parts_by s a b i ≡ true → parts_by s a b c ≡ true
more_by Bare a b i c h p = refl
more_by Number a b i c h p = refl
more_by Variable a b i c h p = refl
more_by Sealed a b i c h p = let q = ltb-true a i p in lt-ltb a c (omega arith)
more_by Hashed a b i c h p = let q = ltb-true a i p in lt-ltb a c (omega arith)
more_by Applied a b i c h p = let q = ltb-true b i p in lt-ltb b c (omega arith)
more_by Joined a b i c h p =
    let q = ltb-true a i (also_left (ltb a i) (ltb b i) p) in
    let r = ltb-true b i (also_right (ltb a i) (ltb b i) p) in
    also_both (lt-ltb a c (omega arith)) (lt-ltb b c (omega arith))
more_by Unknown a b i c h p = refl

-- parts below a label are below a later one
pub parts_more : (x : Term) (i c : ℕ) → i ≤ c → parts_below x i ≡ true → parts_below x c ≡ true
unfolding parts_below
parts_more x i c h p = more_by (shape_of x.kind) x.a x.b i c h p

agree_by : (s : Shape) (k a b n : ℕ) (ts us : List Tree) → parts_by s a b n ≡ true → ((j : ℕ) → j < n → get_or ts j nought ≡ get_or us j nought)
    → build_by s k a b ts ≡ build_by s k a b us
agree_by Bare k a b n ts us p f = refl
agree_by Number k a b n ts us p f = refl
agree_by Variable k a b n ts us p f = refl
agree_by Sealed k a b n ts us p f = ap (λ (t : Tree). sealed k t b) (f a (ltb-true a n p))
agree_by Hashed k a b n ts us p f = ap (λ (t : Tree). sealed k t b) (f a (ltb-true a n p))
agree_by Applied k a b n ts us p f = ap (λ (t : Tree). applied k a t) (f b (ltb-true b n p))
agree_by Joined k a b n ts us p f =
    let q = f a (ltb-true a n (also_left (ltb a n) (ltb b n) p)) in
    let r = f b (ltb-true b n (also_right (ltb a n) (ltb b n) p)) in
    ap₂ (λ (t u : Tree). joined k t u) q r
agree_by Unknown k a b n ts us p f = refl

-- a term's tree hangs on the trees of its parts alone
pub build_agree : (x : Term) (n : ℕ) (ts us : List Tree) → parts_below x n ≡ true → ((j : ℕ) → j < n → get_or ts j nought ≡ get_or us j nought)
    → build x ts ≡ build x us
unfolding parts_below build
build_agree x n ts us p f = agree_by (shape_of x.kind) x.kind x.a x.b n ts us p f

tree_early : (l : List ℕ) (i c : ℕ) → i < c → c ≤ length l → (j : ℕ) → j < i → get_or (trees l i) j nought ≡ get_or (trees l c) j nought
unfolding tree_of
tree_early l i c h r j g = sym (tree_below l i c (omega arith) r j g)

-- a label denotes what its line says, with all labels as they stand in the table
pub tree_at : {l : List ℕ} {c : ℕ} → Sound l c → length l ≡ 512 → (i : ℕ) → i < c → tree_of l c i ≡ means l c (term_at l i)
unfolding means
tree_at {l} {c} S p i h =
    let r : c ≤ length l = omega (arith, S.room, p) in
    tree_built l i c p h S.room ∙ build_agree (term_at l i) i (trees l i) (trees l c) (S.parts i h) (tree_early l i c h r)

-- Depth and ground mark

-- the larger of two numbers, as a test picks it
pub larger_max : (m n : ℕ) → larger_of m n ≡ max m n
unfolding larger_of
larger_max m n = by (ltb m n) refl
  where
    by : (t : Bool) → ltb m n ≡ t → pick t n m ≡ max m n
    by true e = let h = ltb-true m n e in omega arith
    by false e = let h = ltb-false m n e in omega arith

depth_by : (s : Shape) (k a b n : ℕ) (l : List ℕ) (ts : List Tree) → parts_by s a b n ≡ true → ((j : ℕ) → j < n → depth_in (line_at l j) ≡ deepness (get_or ts j nought))
    → (grade_by s l a b).depth ≡ deepness (build_by s k a b ts)
unfolding deepness above_line above_both
depth_by Bare k a b n l ts p f = refl
depth_by Number k a b n l ts p f = refl
depth_by Variable k a b n l ts p f = refl
depth_by Sealed k a b n l ts p f = ap (λ (d : ℕ). d + 1) (f a (ltb-true a n p))
depth_by Hashed k a b n l ts p f = ap (λ (d : ℕ). d + 1) (f a (ltb-true a n p))
depth_by Applied k a b n l ts p f = ap (λ (d : ℕ). d + 1) (f b (ltb-true b n p))
depth_by Joined k a b n l ts p f =
    let q = f a (ltb-true a n (also_left (ltb a n) (ltb b n) p)) in
    let r = f b (ltb-true b n (also_right (ltb a n) (ltb b n) p)) in
    ap (λ (d : ℕ). d + 1) (larger_max (depth_in (line_at l a)) (depth_in (line_at l b)) ∙ ap₂ max q r)
depth_by Unknown k a b n l ts p f = refl

-- the depth that a line would get is the depth of its tree, if that holds of the parts
pub grade_depth : (x : Term) (n : ℕ) (l : List ℕ) (ts : List Tree) → parts_below x n ≡ true → ((j : ℕ) → j < n → depth_in (line_at l j) ≡ deepness (get_or ts j nought))
    → (grade_of l x).depth ≡ deepness (build x ts)
unfolding parts_below grade_of build
grade_depth x n l ts p f = depth_by (shape_of x.kind) x.kind x.a x.b n l ts p f

line_depth : {l : List ℕ} {c : ℕ} → Sound l c → (i : ℕ) → i < c → depth_in (line_at l i) ≡ (grade_of l (term_at l i)).depth
line_depth {l} S i h =
    ap depth_in (sym (S.lines i h)) ∙ depth_packed (term_at l i) (grade_of l (term_at l i)) (term_small (line_at l i)) (omega (arith, S.shallow i h))

depth_in_lem : (n : ℕ) {l : List ℕ} {c : ℕ} → Sound l c → length l ≡ 512 → (i : ℕ) → i < n → i < c → depth_in (line_at l i) ≡ deepness (tree_of l c i)
unfolding tree_of means
depth_in_lem zero S p i h g = absurd (omega arith)
depth_in_lem (suc n) {l} {c} S p i h g =
    line_depth S i g
    ∙ grade_depth (term_at l i) i l (trees l c) (S.parts i g) (λ j k. depth_in_lem n S p j (omega arith) (omega arith))
    ∙ ap deepness (sym (tree_at S p i g))

-- the depth in a line is the depth of its tree
pub depth_right : {l : List ℕ} {c : ℕ} → Sound l c → length l ≡ 512 → (i : ℕ) → i < c → depth_in (line_at l i) ≡ deepness (tree_of l c i)
depth_right {c} S p i h = depth_in_lem c S p i h h

-- no tree of a sound table is deeper than 16
pub tree_shallow : {l : List ℕ} {c : ℕ} → Sound l c → length l ≡ 512 → (i : ℕ) → i < c → deepness (tree_of l c i) ≤ 16
tree_shallow S p i h = omega (arith, depth_right S p i h, line_depth S i h, S.shallow i h)

chain_six : (s t u v w : Bool) (r : Shape) → pick s Number (pick t Bare (pick u Number (pick v Variable (pick w Number r)))) ≡ Variable → (r ≡ Variable → ⊥) → v ≡ true
chain_six true t u v w r h f = let z : ◌≡◌ {A = ℕ} 0 1 = cc in absurd (omega arith)
chain_six false true u v w r h f = let z : ◌≡◌ {A = ℕ} 0 1 = cc in absurd (omega arith)
chain_six false false true v w r h f = let z : ◌≡◌ {A = ℕ} 0 1 = cc in absurd (omega arith)
chain_six false false false true w r h f = refl
chain_six false false false false true r h f = let z : ◌≡◌ {A = ℕ} 0 1 = cc in absurd (omega arith)
chain_six false false false false false r h f = absurd (f h)

chain_rest : (s t u v w : Bool) → pick s Joined (pick t Sealed (pick u Hashed (pick v Joined (pick w Applied Unknown)))) ≡ Variable → ⊥
chain_rest true t u v w h = let z : ◌≡◌ {A = ℕ} 0 1 = cc in omega arith
chain_rest false true u v w h = let z : ◌≡◌ {A = ℕ} 0 1 = cc in omega arith
chain_rest false false true v w h = let z : ◌≡◌ {A = ℕ} 0 1 = cc in omega arith
chain_rest false false false true w h = let z : ◌≡◌ {A = ℕ} 0 1 = cc in omega arith
chain_rest false false false false true h = let z : ◌≡◌ {A = ℕ} 0 1 = cc in omega arith
chain_rest false false false false false h = let z : ◌≡◌ {A = ℕ} 0 1 = cc in omega arith

-- the one kind of variables
pub variable_six : (k : ℕ) → shape_of k ≡ Variable → eqb k 6 ≡ true
unfolding shape_of
variable_six k h =
    chain_six (eqb k 0) (ltb k 3) (ltb k 6) (eqb k 6) (ltb k 9) _ h
    (chain_rest (eqb k 9) (ltb k 13) (eqb k 13) (eqb k 14) (eqb k 15))

six_variable : (k : ℕ) → k ≡ 6 → shape_of k ≡ Variable
unfolding shape_of
six_variable k h = rw h

-- all other shapes are of other kinds
pub other_six : (k : ℕ) → (shape_of k ≡ Variable → ⊥) → eqb k 6 ≡ false
other_six k f = ne_eqb k 6 (λ h. f (six_variable k h))

leaf_ground : (k a : ℕ) → (shape_of k ≡ Variable → ⊥) → true ≡ is_ground (leaf k a)
unfolding is_ground
leaf_ground k a f = rw (other_six k f)

ground_by : (s : Shape) (k a b n : ℕ) (l : List ℕ) (ts : List Tree) → shape_of k ≡ s → parts_by s a b n ≡ true → ((j : ℕ) → j < n → ground_in (line_at l j) ≡ is_ground (get_or ts j nought))
    → (grade_by s l a b).grounded ≡ is_ground (build_by s k a b ts)
unfolding is_ground above_line above_both
ground_by Bare k a b n l ts e p f = leaf_ground k a (λ h. let z : ◌≡◌ {A = ℕ} 0 1 = cc in omega arith)
ground_by Number k a b n l ts e p f = leaf_ground k a (λ h. let z : ◌≡◌ {A = ℕ} 0 1 = cc in omega arith)
ground_by Variable k a b n l ts e p f = rw (variable_six k e)
ground_by Sealed k a b n l ts e p f = f a (ltb-true a n p)
ground_by Hashed k a b n l ts e p f = f a (ltb-true a n p)
ground_by Applied k a b n l ts e p f = f b (ltb-true b n p)
ground_by Joined k a b n l ts e p f =
    let q = f a (ltb-true a n (also_left (ltb a n) (ltb b n) p)) in
    let r = f b (ltb-true b n (also_right (ltb a n) (ltb b n) p)) in
    ap₂ also q r
ground_by Unknown k a b n l ts e p f = leaf_ground k a (λ h. let z : ◌≡◌ {A = ℕ} 0 1 = cc in omega arith)

-- the ground mark that a line would get is right of its tree, if that holds of the parts
pub grade_ground : (x : Term) (n : ℕ) (l : List ℕ) (ts : List Tree) → parts_below x n ≡ true → ((j : ℕ) → j < n → ground_in (line_at l j) ≡ is_ground (get_or ts j nought))
    → (grade_of l x).grounded ≡ is_ground (build x ts)
unfolding parts_below grade_of build
grade_ground x n l ts p f = ground_by (shape_of x.kind) x.kind x.a x.b n l ts refl p f

line_ground : {l : List ℕ} {c : ℕ} → Sound l c → (i : ℕ) → i < c → ground_in (line_at l i) ≡ (grade_of l (term_at l i)).grounded
line_ground {l} S i h =
    ap ground_in (sym (S.lines i h)) ∙ ground_packed (term_at l i) (grade_of l (term_at l i)) (term_small (line_at l i)) (omega (arith, S.shallow i h))

ground_in_lem : (n : ℕ) {l : List ℕ} {c : ℕ} → Sound l c → length l ≡ 512 → (i : ℕ) → i < n → i < c → ground_in (line_at l i) ≡ is_ground (tree_of l c i)
unfolding tree_of means
ground_in_lem zero S p i h g = absurd (omega arith)
ground_in_lem (suc n) {l} {c} S p i h g =
    line_ground S i g
    ∙ grade_ground (term_at l i) i l (trees l c) (S.parts i g) (λ j k. ground_in_lem n S p j (omega arith) (omega arith))
    ∙ ap is_ground (sym (tree_at S p i g))

-- the ground mark in a line is right of its tree
pub ground_right : {l : List ℕ} {c : ℕ} → Sound l c → length l ≡ 512 → (i : ℕ) → i < c → ground_in (line_at l i) ≡ is_ground (tree_of l c i)
ground_right {c} S p i h = ground_in_lem c S p i h h
