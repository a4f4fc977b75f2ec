-- T2. Adding a term to a sound table: refused as too deep, found, entered as one new line, or refused for want of room.
-- Each is tied to the trees: the depth, an old label that denotes the tree, and no label that does.
use Prim.Native.Nat.{ℕ, ◌+◌, ◌<◌, ◌≤◌}
use mathlib.Core.Path.{◌≡◌, refl, sym, ap, ap₂, ◌∙◌, subst}
use mathlib.Core.Bool.{Bool, true, false}
use mathlib.Core.List.{List, [], ◌∷◌, ◌++◌}
use native.Mathlib.Omega.{arith}
use native.Mathlib.Numerals.{add-one}
use lib.ListN.{length, get_or, set, length-set}
use lib.Seq.{take-set-le, get_or-set_same, get_or-set_other, get_or_at}
use lib.Dec.{ltb, eqb}
use borrow.Author.Tests.{ltb-true, ltb-false}
use Rattle.std.specs.Prelude.{Option, Some, None}
use Rattle.terms.proofs.Laws.{below_or, free_none, free_some}
use Rattle.terms.specs.Base.{pick, held, larger_of}
use Rattle.terms.specs.Term.{shape_of, in_limits, parts_by, parts_below, after_by, after_parts}
use Rattle.terms.specs.Line.{packed, term_in, line_at, term_at}
use Rattle.terms.specs.Grade.{above_line, above_both, grade_by, grade_of}
use Rattle.terms.specs.Table.{free_of, find_line, find_term, added, add_by, add_to}
use Rattle.terms.specs.Sound.{Sound}
use Rattle.terms.specs.Tree.{Tree, nought, deepness, member}
use Rattle.terms.specs.Meaning.{build, trees, tree_of, means, Den}
use Rattle.terms.specs.Promise.{Fit, Grows, Adds, deep, listed, new, full, Finds, at, nothing}
use Rattle.terms.specs.declared.term.Term.{Term}
use Rattle.terms.specs.declared.term.Shape.{Shape}
use Rattle.terms.specs.declared.term.Shape.TheVariants.{Bare, Number, Variable, Sealed, Hashed, Applied, Joined, Unknown}
use Rattle.terms.specs.declared.line.Grade.{Grade}
use Rattle.terms.specs.Outcome as O
use Rattle.terms.proofs.Pack.{Small, term_packed}
use Rattle.terms.proofs.Find.{Found_at, line_hit, line_miss}
use Rattle.terms.proofs.Meaning.{length_trees, trees_next, also_left, also_right, parts_more, tree_at, grade_depth, depth_right, tree_shallow}
use Rattle.terms.proofs.Labels.{term_one, one_label, member_den}
use Rattle.terms.proofs.Growth.{trees_front}

-- The grade of a term hangs on the lines of its parts alone

grade_by_lem : (s : Shape) (a b n : ℕ) (l m : List ℕ) → parts_by s a b n ≡ true → ((j : ℕ) → j < n → line_at l j ≡ line_at m j) → grade_by s l a b ≡ grade_by s m a b
grade_by_lem Bare a b n l m p f = refl
grade_by_lem Number a b n l m p f = refl
grade_by_lem Variable a b n l m p f = refl
grade_by_lem Sealed a b n l m p f = ap above_line (f a (ltb-true a n p))
grade_by_lem Hashed a b n l m p f = ap above_line (f a (ltb-true a n p))
grade_by_lem Applied a b n l m p f = ap above_line (f b (ltb-true b n p))
grade_by_lem Joined a b n l m p f =
    ap₂ above_both (f a (ltb-true a n (also_left (ltb a n) (ltb b n) p))) (f b (ltb-true b n (also_right (ltb a n) (ltb b n) p)))
grade_by_lem Unknown a b n l m p f = refl

-- equal lines below n give equal grades to a term with parts below n
pub grade_agree : (x : Term) (n : ℕ) (l m : List ℕ) → parts_below x n ≡ true → ((j : ℕ) → j < n → line_at l j ≡ line_at m j) → grade_of l x ≡ grade_of m x
unfolding parts_below grade_of
grade_agree x n l m p f = grade_by_lem (shape_of x.kind) x.a x.b n l m p f

-- The line of a new term, and the table with it

abbrev new_line : List ℕ → Term → ℕ
new_line l x = packed x (grade_of l x)

abbrev pushed : List ℕ → ℕ → Term → List ℕ
pushed l c x = set l c (new_line l x)

fit_small : {x : Term} {c : ℕ} → Fit x c → Small x
fit_small F = record { kind = F.kind; first = F.first; second = F.second }

-- a term that has no line as computed stands at no label
no_term : {l : List ℕ} {c : ℕ} → Sound l c → (x : Term) → ((i : ℕ) → i < c → line_at l i ≡ new_line l x → ⊥) → (i : ℕ) → i < c → term_at l i ≡ x → ⊥
no_term {l} S x none i h e = none i h (sym (S.lines i h) ∙ ap (new_line l) e)

module _ (l : List ℕ) (c : ℕ) (S : Sound l c) (p : length l ≡ 512) (x : Term) (F : Fit x c) (low : (grade_of l x).depth ≤ 16) (room : c < 512)
    (none : (i : ℕ) → i < c → line_at l i ≡ new_line l x → ⊥) where
  line_old : (i : ℕ) → i < c → line_at l i ≡ line_at (pushed l c x) i
  line_old i h = sym (get_or-set_other l c i (new_line l x) 0 (omega arith))

  line_new : new_line l x ≡ line_at (pushed l c x) c
  line_new = sym (get_or-set_same l c (new_line l x) 0 (omega arith))

  term_new : x ≡ term_at (pushed l c x) c
  term_new = sym (term_packed x (grade_of l x) (fit_small F)) ∙ ap term_in line_new

  grade_old : (i : ℕ) → i < c → grade_of l (term_at l i) ≡ grade_of (pushed l c x) (term_at l i)
  grade_old i h = grade_agree (term_at l i) c l (pushed l c x) (parts_more (term_at l i) i c (omega arith) (S.parts i h)) line_old

  grade_new : grade_of l x ≡ grade_of (pushed l c x) x
  grade_new = grade_agree x c l (pushed l c x) F.parts line_old

  line_right_old : (i : ℕ) → i < c → packed (term_at (pushed l c x) i) (grade_of (pushed l c x) (term_at (pushed l c x) i)) ≡ line_at (pushed l c x) i
  line_right_old i h =
      let m = pushed l c x in
      ap (λ (n : ℕ). packed (term_in n) (grade_of m (term_in n))) (sym (line_old i h))
      ∙ ap (packed (term_at l i)) (sym (grade_old i h)) ∙ S.lines i h ∙ line_old i h

  line_right_new : packed (term_at (pushed l c x) c) (grade_of (pushed l c x) (term_at (pushed l c x) c)) ≡ line_at (pushed l c x) c
  line_right_new =
      let m = pushed l c x in
      ap (λ (y : Term). packed y (grade_of m y)) (sym term_new) ∙ ap (packed x) (sym grade_new) ∙ line_new

  low_old : (i : ℕ) → i < c → (grade_of (pushed l c x) (term_at (pushed l c x) i)).depth ≤ 16
  low_old i h =
      let m = pushed l c x in
      let e = ap (λ (g : Grade). g.depth) (grade_old i h) ∙ ap (λ (n : ℕ). (grade_of m (term_in n)).depth) (line_old i h) in
      omega (arith, e, S.shallow i h)

  low_new : (grade_of (pushed l c x) (term_at (pushed l c x) c)).depth ≤ 16
  low_new =
      let m = pushed l c x in
      let e = ap (λ (g : Grade). g.depth) grade_new ∙ ap (λ (y : Term). (grade_of m y).depth) term_new in
      omega (arith, e, low)

  one_old : (i : ℕ) → i < c → (j : ℕ) → j < c + 1 → term_at (pushed l c x) i ≡ term_at (pushed l c x) j → i ≡ j
  one_old i h =
      let m = pushed l c x in
      below_or (λ j. term_at m i ≡ term_at m j → i ≡ j) c
      (λ j g e. S.distinct i j h g (ap term_in (line_old i h) ∙ e ∙ sym (ap term_in (line_old j g))))
      (λ e. absurd (no_term S x none i h (ap term_in (line_old i h) ∙ e ∙ sym term_new)))

  one_new : (j : ℕ) → j < c + 1 → term_at (pushed l c x) c ≡ term_at (pushed l c x) j → c ≡ j
  one_new =
      let m = pushed l c x in
      below_or (λ j. term_at m c ≡ term_at m j → c ≡ j) c
      (λ j g e. absurd (no_term S x none j g (ap term_in (line_old j g) ∙ sym e ∙ sym term_new)))
      (λ e. refl)

  -- a sound table with a new term that fits is sound
  sound_pushed : Sound (pushed l c x) (c + 1)
  sound_pushed =
      let m = pushed l c x in
      record {
        some = omega (arith, S.some);
        room = omega arith;
        fixed = λ i h. sym (line_old i (omega (arith, S.some, h))) ∙ S.fixed i h;
        limits = below_or (λ i. in_limits (term_at m i) ≡ true) c
            (λ i h. subst (λ (n : ℕ). in_limits (term_in n) ≡ true) (line_old i h) (S.limits i h))
            (subst (λ (y : Term). in_limits y ≡ true) term_new F.limits);
        parts = below_or (λ i. parts_below (term_at m i) i ≡ true) c
            (λ i h. subst (λ (n : ℕ). parts_below (term_in n) i ≡ true) (line_old i h) (S.parts i h))
            (subst (λ (y : Term). parts_below y c ≡ true) term_new F.parts);
        shallow = below_or (λ i. (grade_of m (term_at m i)).depth ≤ 16) c low_old low_new;
        lines = below_or (λ i. packed (term_at m i) (grade_of m (term_at m i)) ≡ line_at m i) c line_right_old line_right_new;
        distinct = λ i j h g. below_or (λ k. (r : ℕ) → r < c + 1 → term_at m k ≡ term_at m r → k ≡ r) c one_old one_new i h j g;
        zeros = λ i h. get_or-set_other l c i (new_line l x) 0 (omega arith) ∙ S.zeros i (omega arith);
      }

  grows_pushed : Grows l c (pushed l c x) (c + 1)
  grows_pushed =
      record { sound = sound_pushed; long = length-set l c (new_line l x) ∙ p; rises = omega arith; front = take-set-le c l c (new_line l x) (omega arith) }

  trees_pushed : trees (pushed l c x) (c + 1) ≡ trees l c ++ (means l c x ∷ [])
  unfolding means
  trees_pushed =
      let m = pushed l c x in
      let n : c < length m = omega (arith, length-set l c (new_line l x), p, room) in
      ap (trees m) (add-one c) ∙ trees_next m c n
      ∙ ap₂ (λ (ts : List Tree) (y : Term). ts ++ (build y ts ∷ [])) (trees_front grows_pushed) (sym term_new)

  den_pushed : Den (pushed l c x) (c + 1) c (means l c x)
  unfolding tree_of
  den_pushed =
      record {
        below = omega arith;
        is = ap (λ (ts : List Tree). get_or ts c nought) trees_pushed ∙ get_or_at (trees l c) (means l c x) [] nought c (length_trees l c p S.room);
      }

-- The answers

-- the depth that the new line would get is that of the tree
pub fit_depth : {l : List ℕ} {c : ℕ} → Sound l c → length l ≡ 512 → (x : Term) → parts_below x c ≡ true → (grade_of l x).depth ≡ deepness (means l c x)
unfolding means tree_of
fit_depth {l} {c} S p x h = grade_depth x c l (trees l c) h (depth_right S p)

-- a label of the tree has the term's line
means_line : {l : List ℕ} {c i : ℕ} → Sound l c → length l ≡ 512 → (x : Term) → Fit x c → Den l c i (means l c x) → line_at l i ≡ new_line l x
unfolding means tree_of
means_line {l} {c} {i} S p x F D =
    let h = D.below in
    let e : build (term_at l i) (trees l c) ≡ build x (trees l c) = sym (tree_at S p i h) ∙ D.is in
    let t : term_at l i ≡ x = term_one (term_at l i) x c c (trees l c) (S.limits i h) F.limits (parts_more (term_at l i) i c (omega arith) (S.parts i h)) F.parts (one_label S p) e in
    sym (S.lines i h) ∙ ap (new_line l) t

-- a line that is not there is a tree that is not there
not_member : {l : List ℕ} {c : ℕ} → Sound l c → length l ≡ 512 → (x : Term) → Fit x c → ((i : ℕ) → i < c → line_at l i ≡ new_line l x → ⊥)
    → member (means l c x) (trees l c) ≡ false
not_member {l} {c} S p x F none = by (member (means l c x) (trees l c)) refl
  where
    by : (t : Bool) → member (means l c x) (trees l c) ≡ t → t ≡ false
    by true e = let d = member_den S p (means l c x) e in absurd (none d.0 d.1.below (means_line S p x F d.1))
    by false e = refl

-- the label of the term's line denotes the tree
line_den : {l : List ℕ} {c i : ℕ} → Sound l c → length l ≡ 512 → (x : Term) → Fit x c → Found_at l c (new_line l x) i → Den l c i (means l c x)
line_den {l} {c} {i} S p x F r =
    let t : term_at l i ≡ x = ap term_in r.is ∙ term_packed x (grade_of l x) (fit_small F) in
    record { below = r.below; is = tree_at S p i r.below ∙ ap (means l c) t }

after_by_lem : (s : Shape) (a b i : ℕ) → parts_by s a b i ≡ true → after_by s a b ≤ i
unfolding larger_of
after_by_lem Bare a b i p = omega arith
after_by_lem Number a b i p = omega arith
after_by_lem Variable a b i p = omega arith
after_by_lem Sealed a b i p = omega (arith, ltb-true a i p)
after_by_lem Hashed a b i p = omega (arith, ltb-true a i p)
after_by_lem Applied a b i p = omega (arith, ltb-true b i p)
after_by_lem Joined a b i p = later_by (ltb a b) (ltb-true a i (also_left (ltb a i) (ltb b i) p)) (ltb-true b i (also_right (ltb a i) (ltb b i) p))
  where
    later_by : (t : Bool) → a < i → b < i → pick t b a ≤ i
    later_by true h k = omega arith
    later_by false h k = omega arith
after_by_lem Unknown a b i p = omega arith

-- a term stands at no label before its parts
parts_after : (x : Term) (i : ℕ) → parts_below x i ≡ true → after_parts x ≤ i
unfolding parts_below after_parts
parts_after x i p = after_by_lem (shape_of x.kind) x.a x.b i p

-- so a line that is not there behind its parts is not there at all
behind_parts : {l : List ℕ} {c : ℕ} → Sound l c → (x : Term) → Fit x c → ((i : ℕ) → after_parts x ≤ i → i < c → line_at l i ≡ new_line l x → ⊥)
    → (i : ℕ) → i < c → line_at l i ≡ new_line l x → ⊥
behind_parts {l} {c} S x F none i h e =
    let t : term_at l i ≡ x = ap term_in e ∙ term_packed x (grade_of l x) (fit_small F) in
    none i (parts_after x i (subst (λ (y : Term). parts_below y i ≡ true) t (S.parts i h))) h e

adds_room : {l : List ℕ} {c : ℕ} → Sound l c → length l ≡ 512 → (x : Term) → Fit x c → (grade_of l x).depth ≤ 16 → ((i : ℕ) → i < c → line_at l i ≡ new_line l x → ⊥)
    → (t : Bool) → eqb (free_of c) 0 ≡ t → Adds l c x (pick t (held (added O.Full c) l) (held (added (O.New c) (c + 1)) (pushed l c x)))
adds_room {l} {c} S p x F low none false e =
    let h = free_some c e in
    new (omega (arith, fit_depth S p x F.parts)) (not_member S p x F none) h
    (grows_pushed l c S p x F low h none) (den_pushed l c S p x F low h none) (trees_pushed l c S p x F low h none)
adds_room {l} {c} S p x F low none true e =
    full (omega (arith, fit_depth S p x F.parts)) (not_member S p x F none) (omega (arith, free_none c e, S.room))

adds_found : {l : List ℕ} {c : ℕ} → Sound l c → length l ≡ 512 → (x : Term) → Fit x c → (grade_of l x).depth ≤ 16
    → (f : Option ℕ) → find_line l (after_parts x) c (new_line l x) ≡ f → Adds l c x (add_by f l c (new_line l x))
adds_found {l} {c} S p x F low (Some i) e =
    listed (omega (arith, fit_depth S p x F.parts)) (line_den S p x F (line_hit l (after_parts x) c (new_line l x) i (omega (arith, S.room, p)) e))
adds_found {l} {c} S p x F low None e =
    adds_room S p x F low (behind_parts S x F (line_miss l (after_parts x) c (new_line l x) (omega (arith, S.room, p)) e)) (eqb (free_of c) 0) refl

adds_by : {l : List ℕ} {c : ℕ} → Sound l c → length l ≡ 512 → (x : Term) → Fit x c → (t : Bool) → ltb 16 (grade_of l x).depth ≡ t
    → Adds l c x (pick t (held (added O.Deep c) l) (add_by (find_line l (after_parts x) c (new_line l x)) l c (new_line l x)))
adds_by {l} S p x F true e = deep (omega (arith, ltb-true 16 (grade_of l x).depth e, fit_depth S p x F.parts))
adds_by {l} {c} S p x F false e = adds_found S p x F (ltb-false 16 (grade_of l x).depth e) (find_line l (after_parts x) c (new_line l x)) refl

-- T2. What `add_to` answers, for a term that may be the next line
pub adds : {l : List ℕ} {c : ℕ} → Sound l c → length l ≡ 512 → (x : Term) → Fit x c → Adds l c x (add_to l c x)
unfolding add_to
adds {l} S p x F = adds_by S p x F (ltb 16 (grade_of l x).depth) refl

-- a tree deeper than 16 has no label
deep_not_member : {l : List ℕ} {c : ℕ} → Sound l c → length l ≡ 512 → (z : Tree) → 16 < deepness z → member z (trees l c) ≡ false
deep_not_member {l} {c} S p z h = by (member z (trees l c)) refl
  where
    by : (t : Bool) → member z (trees l c) ≡ t → t ≡ false
    by true e =
        let d = member_den S p z e in
        let low : deepness z ≤ 16 = rw d.1.is at (tree_shallow S p d.0 d.1.below) in
        absurd (omega arith)
    by false e = refl

finds_found : {l : List ℕ} {c : ℕ} → Sound l c → length l ≡ 512 → (x : Term) → Fit x c → (f : Option ℕ) → find_line l (after_parts x) c (new_line l x) ≡ f → Finds l c x f
finds_found {l} {c} S p x F (Some i) e = at (line_den S p x F (line_hit l (after_parts x) c (new_line l x) i (omega (arith, S.room, p)) e))
finds_found {l} {c} S p x F None e = nothing (not_member S p x F (behind_parts S x F (line_miss l (after_parts x) c (new_line l x) (omega (arith, S.room, p)) e)))

finds_by : {l : List ℕ} {c : ℕ} → Sound l c → length l ≡ 512 → (x : Term) → Fit x c → (t : Bool) → ltb 16 (grade_of l x).depth ≡ t
    → Finds l c x (pick t None (find_line l (after_parts x) c (new_line l x)))
finds_by {l} {c} S p x F true e =
    nothing (deep_not_member S p (means l c x) (omega (arith, ltb-true 16 (grade_of l x).depth e, fit_depth S p x F.parts)))
finds_by {l} {c} S p x F false e = finds_found S p x F (find_line l (after_parts x) c (new_line l x)) refl

-- What `find_term` answers, for a term that may be the next line
pub finds : {l : List ℕ} {c : ℕ} → Sound l c → length l ≡ 512 → (x : Term) → Fit x c → Finds l c x (find_term l c x)
unfolding find_term
finds {l} S p x F = finds_by S p x F (ltb 16 (grade_of l x).depth) refl
