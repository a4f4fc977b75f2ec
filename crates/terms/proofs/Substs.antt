-- T3: substituting at a label enters the tree with values for variables, all its new terms in their order, and answers with its label.
-- A walk stops where it meets a term deeper than 16, or one without room. `takes` is the same for both operands of an action.
use Prim.Native.Nat.{ℕ, zero, suc, ◌+◌, ◌<◌, ◌≤◌, max}
use mathlib.Core.Path.{◌≡◌, refl, sym, ap, ◌∙◌}
use mathlib.Core.Bool.{Bool, true, false}
use mathlib.Core.List.{List, [], ◌∷◌}
use native.Mathlib.Omega.{arith}
use native.Mathlib.Nat.{le_trans}
use lib.ListN.{length, length-append}
use lib.Dec.{leb}
use borrow.Author.Tests.{leb-true, leb-false}
use Rattle.terms.specs.Base.{pick, Held, held}
use Rattle.terms.specs.Term.{term}
use Rattle.terms.specs.Line.{term_in, term_at}
use Rattle.terms.specs.Table.{cut_to}
use Rattle.terms.specs.Subbed as G
use Rattle.terms.specs.Subbed.{Subbed, subbed}
use Rattle.terms.specs.Subst.{as_got, entered_in, with_first, with_second, with_both, then_second, walk_by, subst_in, operands, second_operand, take_by, take_both, deep_or_full, settled, take_operands}
use Rattle.terms.specs.Sound.{Sound}
use Rattle.terms.specs.Tree.{Tree, sealed, applied, joined, deepness, subst_t, member, with, enter}
use Rattle.terms.specs.Meaning.{trees, tree_of, means, Den}
use Rattle.terms.specs.Promise.{Fit, Grows, Each, none, one, Adds, listed, new, Enters, Takes}
use Rattle.terms.specs.declared.term.Term.{Term}
use Rattle.terms.specs.Outcome.{Added}
use Rattle.terms.specs.declared.subst.Plan.{Plan}
use Rattle.terms.specs.Taken.{Operands}
use Rattle.terms.specs.Taken as T
use Rattle.terms.proofs.Back.{cut_back, both_operands_grow}
use Rattle.terms.proofs.Meaning.{length_trees, tree_shallow}
use Rattle.terms.proofs.Labels.{den_at, den_member}
use Rattle.terms.proofs.Growth.{term_grows, den_grows, grows_refl, grows_then}
use Rattle.terms.proofs.Add.{adds}
use Rattle.terms.proofs.Enter.{with_known, with_new, with_length, enter_length, deepness_some}
use Rattle.terms.proofs.Depth.{Seals, Applies, Joins, Goes, keeps, goes_first, goes_second, goes_both, den_enters, goes, fits_den}

-- what held of the values holds in a grown table
pub each_grows : {l : List ℕ} {c : ℕ} {m : List ℕ} {d : ℕ} {vs : List ℕ} {ws : List Tree} → Grows l c m d → Each (Den l c) vs ws → Each (Den m d) vs ws
each_grows g none = none
each_grows g (one p ps) = one (den_grows g p) (each_grows g ps)

-- The tree z, of any depth, walked: entered as a whole, or stopped at a term that is deeper than 16 or has no room
data Walks (l : List ℕ) (c : ℕ) (z : Tree) : Held Subbed → Type 0 where
  done : {m : List ℕ} {d j : ℕ} → Grows l c m d → Den m d j z → trees m d ≡ enter (trees l c) z → Walks l c z (held (subbed (G.Label j) d) m)
  full : {m : List ℕ} {d : ℕ} → 512 < length (enter (trees l c) z) → Walks l c z (held (subbed G.Full d) m)
  deep : {m : List ℕ} {d : ℕ} → 16 < deepness z → Walks l c z (held (subbed G.Deep d) m)

-- a term entered last: its parts are there, and it is all of z that may be missing
module _ {l : List ℕ} {c : ℕ} {m : List ℕ} {d : ℕ} (g : Grows l c m d) (z : Tree) (rest : enter (trees l c) z ≡ with (trees m d) z) where
  entered_by : (x : Term) → means m d x ≡ z → {r : Held Added} → Adds m d x r → Walks l c z (as_got r)
  entered_by x e (Adds.deep h) = let k : deepness (means m d x) ≡ deepness z = ap deepness e in Walks.deep (omega arith)
  entered_by x e (listed h n) =
      let n' : Den m d _ z = rw e at n in
      Walks.done g n' (sym (rest ∙ with_known (trees m d) z (den_member g.sound g.long n')))
  entered_by x e (new h n r k n2 t) =
      let n' : member z (trees m d) ≡ false = rw e at n in
      Walks.done (grows_then g k) (rw e at n2) ((rw e at t) ∙ sym (rest ∙ with_new (trees m d) z n'))
  entered_by x e (Adds.full h n r) =
      let n' : member z (trees m d) ≡ false = rw e at n in
      let w : length (with (trees m d) z) ≡ length (trees m d) + 1 = ap length (with_new (trees m d) z n') ∙ length-append (trees m d) (z ∷ []) in
      let t : length (trees m d) ≡ d = length_trees m d g.long g.sound.room in
      let f : length (enter (trees l c) z) ≡ length (with (trees m d) z) = ap length rest in
      Walks.full (omega arith)

  entered : (x : Term) → Fit x d → means m d x ≡ z → Walks l c z (entered_in m d x)
  unfolding entered_in
  entered x f e = entered_by x e (adds g.sound g.long x f)

-- what a term of a shape means, once its parts are entered
pub means_sealed : {m : List ℕ} {d j k n : ℕ} {y : Tree} → Seals k n → Den m d j y → means m d (term k j n) ≡ sealed k y n
unfolding means tree_of
means_sealed {m} {d} {j} {k} {n} s e = s.is j (trees m d) ∙ ap (λ (t : Tree). sealed k t n) e.is

pub means_applied : {m : List ℕ} {d j k f : ℕ} {y : Tree} → Applies k f → Den m d j y → means m d (term k f j) ≡ applied k f y
unfolding means tree_of
means_applied {m} {d} {j} {k} {f} s e = s.is j (trees m d) ∙ ap (λ (t : Tree). applied k f t) e.is

pub means_joined : {m : List ℕ} {d i j k : ℕ} {y z : Tree} → Joins k → Den m d i y → Den m d j z → means m d (term k i j) ≡ joined k y z
unfolding means tree_of
means_joined {m} {d} {i} {j} {k} {y} s e f = s.is i j (trees m d) ∙ ap (λ (t : Tree). joined k t (tree_of m d j)) e.is ∙ ap (λ (t : Tree). joined k y t) f.is

-- the parts entered, then the whole, which is the term at label i with other parts
module _ {l : List ℕ} {c : ℕ} (i : ℕ) (h : i < c) where
  same_term : {m : List ℕ} {d : ℕ} → Grows l c m d → term_at m i ≡ term_at l i
  same_term g = ap term_in (term_grows g i h)

  then_first : {y : Tree} {r : Held Subbed} → Seals (term_at l i).kind (term_at l i).b
      → Walks l c y r → Walks l c (sealed (term_at l i).kind y (term_at l i).b) (with_first r.table i r.out)
  unfolding with_first enter deepness
  then_first {y} s (Walks.done {m} {d} {j} g n t) =
      let whole : Tree = sealed (term_at l i).kind y (term_at l i).b in
      let e : enter (trees l c) whole ≡ with (trees m d) whole = ap (λ (ks : List Tree). with ks whole) (sym t) in
      rw (same_term g) (entered g whole e (term (term_at l i).kind j (term_at l i).b) (s.fit j d n.below g.sound.room) (means_sealed s n))
  then_first {y} s (Walks.deep k) = Walks.deep (omega arith)
  then_first {y} s (Walks.full k) = Walks.full (le_trans k (with_length (enter (trees l c) y) (sealed (term_at l i).kind y (term_at l i).b)))

  then_second_lem : {y : Tree} {r : Held Subbed} → Applies (term_at l i).kind (term_at l i).a
      → Walks l c y r → Walks l c (applied (term_at l i).kind (term_at l i).a y) (with_second r.table i r.out)
  unfolding with_second enter deepness
  then_second_lem {y} s (Walks.done {m} {d} {j} g n t) =
      let whole : Tree = applied (term_at l i).kind (term_at l i).a y in
      let e : enter (trees l c) whole ≡ with (trees m d) whole = ap (λ (ks : List Tree). with ks whole) (sym t) in
      rw (same_term g) (entered g whole e (term (term_at l i).kind (term_at l i).a j) (s.fit j d n.below g.sound.room) (means_applied s n))
  then_second_lem {y} s (Walks.deep k) = Walks.deep (omega arith)
  then_second_lem {y} s (Walks.full k) = Walks.full (le_trans k (with_length (enter (trees l c) y) (applied (term_at l i).kind (term_at l i).a y)))

  then_both : {m : List ℕ} {d a : ℕ} {y z : Tree} {r : Held Subbed} → Joins (term_at l i).kind
      → Grows l c m d → Den m d a y → trees m d ≡ enter (trees l c) y
      → Walks m d z r → Walks l c (joined (term_at l i).kind y z) (with_both r.table i a r.out)
  unfolding with_both enter deepness
  then_both {m} {d} {a} {y} {z} s g n t (Walks.done {m = u} {d = v} {j = j} g2 n2 t2) =
      let whole : Tree = joined (term_at l i).kind y z in
      let both : Grows l c u v = grows_then g g2 in
      let e : enter (trees l c) whole ≡ with (trees u v) whole = ap (λ (ks : List Tree). with (enter ks z) whole) (sym t) ∙ ap (λ (ks : List Tree). with ks whole) (sym t2) in
      let n' : Den u v a y = den_grows g2 n in
      rw (same_term both) (entered both whole e (term (term_at l i).kind a j) (s.fit a j v n'.below n2.below both.sound.room) (means_joined s n' n2))
  then_both {m} {d} {a} {y} {z} s g n t (Walks.deep k) = Walks.deep (omega arith)
  then_both {m} {d} {a} {y} {z} s g n t (Walks.full k) =
      Walks.full (le_trans (rw t at k) (with_length (enter (enter (trees l c) y) z) (joined (term_at l i).kind y z)))

-- the walk: `down` is right for whatever table the parts meet
module _ (vs : List ℕ) (ws : List Tree) (o : ℕ) where
  abbrev Down : ℕ → (List ℕ → ℕ → ℕ → Held Subbed) → Type 0
  Down n down = (m : List ℕ) (d : ℕ) → Sound m d → length m ≡ 512 → Each (Den m d) vs ws
      → (j : ℕ) (y : Tree) → Den m d j y → deepness y ≤ n → Walks m d (subst_t ws o y) (down m d j)

  then_down : {l : List ℕ} {c : ℕ} → Each (Den l c) vs ws → (n i : ℕ) → i < c → {b : ℕ} {y z : Tree} (down : List ℕ → ℕ → ℕ → Held Subbed) → Down n down
      → Joins (term_at l i).kind → Den l c b z → deepness z ≤ n → {r : Held Subbed} → Walks l c y r
      → Walks l c (joined (term_at l i).kind y (subst_t ws o z)) (then_second r.out.got r.out.count i b down r.table)
  unfolding enter deepness
  then_down {l} {c} vals n i h {b} {y} {z} down ih s e low (Walks.done {m} {d} {j} g f t) =
      then_both i h s g f t (ih m d g.sound g.long (each_grows g vals) b z (den_grows g e) low)
  then_down {l} {c} vals n i h {b} {y} {z} down ih s e low (Walks.deep k) = Walks.deep (omega arith)
  then_down {l} {c} vals n i h {b} {y} {z} down ih s e low (Walks.full k) =
      let w : length (enter (trees l c) y) ≤ length (enter (enter (trees l c) y) (subst_t ws o z)) = enter_length (enter (trees l c) y) (subst_t ws o z) in
      Walks.full (le_trans k (le_trans w (with_length (enter (enter (trees l c) y) (subst_t ws o z)) (joined (term_at l i).kind y (subst_t ws o z)))))

  walks : {l : List ℕ} {c : ℕ} → Sound l c → length l ≡ 512 → Each (Den l c) vs ws → (n i : ℕ) → i < c → (down : List ℕ → ℕ → ℕ → Held Subbed) → Down n down
      → {p : Plan} {x : Tree} → Goes l c ws o i p x → deepness x ≤ suc n → Walks l c (subst_t ws o x) (walk_by p down l c i)
  unfolding subst_t deepness
  walks sound long vals n i h down ih (keeps d) low = Walks.done (grows_refl sound long) d (sym (den_enters sound long d))
  walks sound long vals n i h down ih (goes_first {a = a} {y = y} d s) low = then_first i h s (ih _ _ sound long vals a y d (omega arith))
  walks sound long vals n i h down ih (goes_second {b = b} {y = y} d s) low = then_second_lem i h s (ih _ _ sound long vals b y d (omega arith))
  walks sound long vals n i h down ih (goes_both {a = a} {y = y} d e s) low =
      then_down vals n i h down ih s e (omega arith) (ih _ _ sound long vals a y d (omega arith))

  walks_down : (n : ℕ) → Down n (λ m d j. subst_in n m d vs o j)
  unfolding subst_in
  walks_down zero l c sound long vals i x d low = let k : 1 ≤ deepness x = deepness_some x in absurd (omega arith)
  walks_down (suc n) l c sound long vals i x d low =
      walks sound long vals n i d.below (λ m e j. subst_in n m e vs o j) (walks_down n) (goes sound long vals o i x d) low

-- where label i denotes x: whatever the fuel, if x is no deeper
walks_den : {l : List ℕ} {c : ℕ} {vs : List ℕ} {ws : List Tree} → Sound l c → length l ≡ 512 → Each (Den l c) vs ws
    → (o n : ℕ) {i : ℕ} {x : Tree} → Den l c i x → deepness x ≤ n → Walks l c (subst_t ws o x) (subst_in n l c vs o i)
walks_den {l} {c} {vs} {ws} sound long vals o n {i} {x} e low = walks_down vs ws o n l c sound long vals i x e low

-- a tree at most 16 deep is entered, or has no room
flat_enters : {l : List ℕ} {c : ℕ} {z : Tree} {r : Held Subbed} → deepness z ≤ 16 → Walks l c z r → Enters l c z r
flat_enters flat (Walks.done g n t) = Enters.done g n t
flat_enters flat (Walks.full k) = Enters.full k
flat_enters flat (Walks.deep h) = absurd (omega arith)

-- T3, where label i denotes x
pub substs_den : {l : List ℕ} {c : ℕ} {vs : List ℕ} {ws : List Tree} → Sound l c → length l ≡ 512 → Each (Den l c) vs ws
    → (o n : ℕ) {i : ℕ} {x : Tree} → Den l c i x → deepness x ≤ n → deepness (subst_t ws o x) ≤ 16 → Enters l c (subst_t ws o x) (subst_in n l c vs o i)
substs_den sound long vals o n e low flat = flat_enters flat (walks_den sound long vals o n e low)

-- T3, of any label
pub substs : {l : List ℕ} {c : ℕ} {vs : List ℕ} {ws : List Tree} → Sound l c → length l ≡ 512 → Each (Den l c) vs ws
    → (o n i : ℕ) → i < c → deepness (tree_of l c i) ≤ n → deepness (subst_t ws o (tree_of l c i)) ≤ 16
    → Enters l c (subst_t ws o (tree_of l c i)) (subst_in n l c vs o i)
substs sound long vals o n i h low flat = substs_den sound long vals o n (den_at i h) low flat

-- a tree that a label denotes is at most 16 deep
pub den_shallow : {l : List ℕ} {c i : ℕ} {x : Tree} → Sound l c → length l ≡ 512 → Den l c i x → deepness x ≤ 16
den_shallow {i = i} sound long e = rw e.is at (tree_shallow sound long i e.below)

-- both operands walked one after the other
data Walks-both (l : List ℕ) (c : ℕ) (x y : Tree) : Held Operands → Type 0 where
  done : {m : List ℕ} {d i j : ℕ} → max (deepness x) (deepness y) ≤ 16 → Grows l c m d → Den m d i x → Den m d j y → trees m d ≡ enter (enter (trees l c) x) y
      → Walks-both l c x y (held (operands (T.Labels i j) d) m)
  full : {m : List ℕ} {d : ℕ} → 512 < length (enter (enter (trees l c) x) y) → Walks-both l c x y (held (operands T.Full d) m)
  deep : {m : List ℕ} {d : ℕ} → 16 < max (deepness x) (deepness y) → Walks-both l c x y (held (operands T.Deep d) m)

-- the second operand, after the first
module _ {l : List ℕ} {c : ℕ} {x y : Tree} where
  take_second : {m : List ℕ} {d i : ℕ} → Grows l c m d → Den m d i x → trees m d ≡ enter (trees l c) x
      → {q : Held Subbed} → Walks m d y q → Walks-both l c x y (held (second_operand i q.out) q.table)
  unfolding second_operand
  take_second g n t (Walks.done g2 n2 t2) =
      let a : deepness x ≤ 16 = den_shallow g.sound g.long n in
      let b : deepness y ≤ 16 = den_shallow g2.sound g2.long n2 in
      Walks-both.done (omega arith) (grows_then g g2) (den_grows g2 n) n2 (t2 ∙ ap (λ (ks : List Tree). enter ks y) t)
  take_second g n t (Walks.full k) = Walks-both.full (rw t at k)
  take_second g n t (Walks.deep h) = Walks-both.deep (omega arith)

  take_first : (vs : List ℕ) (o j : ℕ) → ((m : List ℕ) (d : ℕ) → Grows l c m d → Walks m d y (subst_in 16 m d vs o j))
      → {r : Held Subbed} → Walks l c x r → Walks-both l c x y (take_by r vs o j)
  take_first vs o j next (Walks.done {m} {d} g n t) = take_second g n t (next m d g)
  take_first vs o j next (Walks.full k) = Walks-both.full (le_trans k (enter_length (enter (trees l c) x) y))
  take_first vs o j next (Walks.deep h) = Walks-both.deep (omega arith)

-- both operands of an action, where labels i and j denote x and y: "8" exactly when one is too deep, then "9" exactly when there is no room for both
module _ {l : List ℕ} {c : ℕ} {vs : List ℕ} {ws : List Tree} (sound : Sound l c) (long : length l ≡ 512) (vals : Each (Den l c) vs ws) (o : ℕ) where
  takes_both : (i j : ℕ) (x y : Tree) → Den l c i x → Den l c j y → Walks-both l c (subst_t ws o x) (subst_t ws o y) (take_both l c vs o i j)
  unfolding take_both
  takes_both i j x y e f =
      take_first vs o j
      (λ m d g. walks_den g.sound g.long (each_grows g vals) o 16 (den_grows g f) (den_shallow sound long f))
      (walks_den sound long vals o 16 e (den_shallow sound long e))

  -- no room for both: the depths decide
  full_by : (x y : Tree) → 512 < length (enter (enter (trees l c) x) y) → (p q : Bool) → leb (deepness x) 16 ≡ p → leb (deepness y) 16 ≡ q
      → Takes l c x y (held (operands (pick p (pick q T.Full T.Deep) T.Deep) c) l)
  full_by x y k true true p q =
      let a : deepness x ≤ 16 = leb-true (deepness x) 16 p in
      let b : deepness y ≤ 16 = leb-true (deepness y) 16 q in
      Takes.full (omega arith) k
  full_by x y k true false p q = let b : 16 < deepness y = leb-false (deepness y) 16 q in Takes.deep (omega arith)
  full_by x y k false b p q = let a : 16 < deepness x = leb-false (deepness x) 16 p in Takes.deep (omega arith)

  settles_full : (i j : ℕ) (x y : Tree) → Den l c i x → Den l c j y → 512 < length (enter (enter (trees l c) (subst_t ws o x)) (subst_t ws o y))
      → Takes l c (subst_t ws o x) (subst_t ws o y) (held (operands (deep_or_full l vs o i j) c) l)
  unfolding deep_or_full
  settles_full i j x y e f k =
      rw (fits_den sound long vals o 16 i x e, fits_den sound long vals o 16 j y f)
      (full_by (subst_t ws o x) (subst_t ws o y) k (leb (deepness (subst_t ws o x)) 16) (leb (deepness (subst_t ws o y)) 16) refl refl)

  -- a refusal is settled in the table as it came
  settles : (i j : ℕ) (x y : Tree) → Den l c i x → Den l c j y → {r : Held Operands} → Walks-both l c (subst_t ws o x) (subst_t ws o y) r
      → cut_to r.table c r.out.count ≡ l → Takes l c (subst_t ws o x) (subst_t ws o y) (settled r c vs o i j)
  settles i j x y e f (Walks-both.done low g a b t) cuts = Takes.done low g a b t
  settles i j x y e f (Walks-both.deep h) cuts = rw cuts (Takes.deep h)
  settles i j x y e f (Walks-both.full k) cuts = rw cuts (settles_full i j x y e f k)

  pub takes_den : {i j : ℕ} {x y : Tree} → Den l c i x → Den l c j y → Takes l c (subst_t ws o x) (subst_t ws o y) (take_operands l c vs o i j)
  unfolding take_operands
  takes_den {i} {j} {x} {y} e f =
      settles i j x y e f (takes_both i j x y e f) (cut_back sound.room sound.zeros (both_operands_grow l c vs o i j))

  -- the same of any two labels
  pub takes : (x y : ℕ) → x < c → y < c → Takes l c (subst_t ws o (tree_of l c x)) (subst_t ws o (tree_of l c y)) (take_operands l c vs o x y)
  takes x y h k = takes_den (den_at x h) (den_at y k)
