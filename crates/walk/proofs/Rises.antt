-- The lists rise in dictionary order, so no try and no bad schedule comes twice. What stands below a code begins with it, and the
-- codes rise.
use Prim.Native.Nat.{ℕ, zero, suc, ◌<◌}
use mathlib.Core.List.{List, [], ◌∷◌, map}
use native.Mathlib.Omega.{arith}
use Rattle.walk.specs.Base.{All}
use Rattle.walk.specs.Order.{Before, shorter, lower, later, Sorted}
use Rattle.walk.specs.Machine.{Machine, Coded, Outcome, refused, too_big, goes, breaks}
use Rattle.walk.specs.Trail.{Mark, plain, sized, bad, Try, under, entered, across, trails, bad_and, bad_in, all_bad}
use Rattle.walk.proofs.Lists.{all_append, all_imp, all_map, sorted_append, sorted_map}

-- a word that begins with a code of which P holds
data Begins (P : ℕ → Type 0) : List ℕ → Type 0 where
  begins : {k : ℕ} {w : List ℕ} → P k → Begins P (k ∷ w)

-- no word is empty, and the words rise
abbrev pub Fine : List Try → Type 0
Fine l = All (λ t. Before [] t.word) l × Sorted (λ s t. Before s.word t.word) l

heads : (M : Machine) (f : M.Conf → List Try) (c : M.Conf) (P : ℕ → Type 0) (ks : List ℕ) → All P ks → All (λ t. Begins P t.word) (across M f c ks)
heads M f c P [] a = tt
heads M f c P (k ∷ ks) a = (
  begins a.0,
  all_append (λ t. Begins P t.word) (map (under k) (entered f (M.try c k))) (across M f c ks)
      (all_map (under k) (λ t. Begins P t.word) (entered f (M.try c k)) (same (entered f (M.try c k))))
      (heads M f c P ks a.1),
)
  where
    same : (l : List Try) → All (λ t. Begins P (k ∷ t.word)) l
    same [] = tt
    same (t ∷ l) = (begins a.0, same l)

-- what begins with k stands before what begins with a later code; nothing stands before the empty word
ahead_of : {k : ℕ} (v : List ℕ) {w : List ℕ} → Begins (λ j. k < j) w → Before (k ∷ v) w
ahead_of {k} v (begins {k = j} l) = lower {j = k} {k = j} (omega arith)

not_empty : {P : ℕ → Type 0} {w : List ℕ} → Begins P w → Before [] w
not_empty (begins p) = shorter

fine_below : (M : Machine) (f : M.Conf → List Try) → ((d : M.Conf) → Fine (f d)) → (o : Outcome M.Conf) → Fine (entered f o)
fine_below M f h refused = (tt, tt)
fine_below M f h too_big = (tt, tt)
fine_below M f h (goes d) = h d
fine_below M f h breaks = (tt, tt)

all_sorted : {A : Type 0} (R S : A → A → Type 0) → ((x y : A) → R x y → S x y) → (l : List A) → Sorted R l → Sorted S l
all_sorted R S f [] a = tt
all_sorted R S f (x ∷ l) a = (all_imp (R x) (S x) (f x) l a.0, all_sorted R S f l a.1)

sorted_across : (M : Machine) (f : M.Conf → List Try) → ((d : M.Conf) → Fine (f d)) → (c : M.Conf) (ks : List ℕ) → Sorted ◌<◌ ks →
    Sorted (λ s t. Before s.word t.word) (across M f c ks)
sorted_across M f h c [] a = tt
sorted_across M f h c (k ∷ ks) a = (
  all_append (λ t. Before (k ∷ []) t.word) under_k (across M f c ks)
      (all_map (under k) (λ t. Before (k ∷ []) t.word) (entered f (M.try c k))
      (all_imp (λ t. Before [] t.word) (λ t. Before (k ∷ []) (k ∷ t.word)) (λ t b. later b) (entered f (M.try c k)) fine.0))
      (all_imp (λ t. Begins (λ j. k < j) t.word) (λ t. Before (k ∷ []) t.word) (λ t b. ahead_of [] b) (across M f c ks) others),
  sorted_append (λ s t. Before s.word t.word) under_k (across M f c ks)
      (sorted_map (under k) (λ s t. Before s.word t.word) (entered f (M.try c k))
      (all_sorted (λ s t. Before s.word t.word) (λ s t. Before (k ∷ s.word) (k ∷ t.word)) (λ s t b. later b) (entered f (M.try c k)) fine.1))
      (sorted_across M f h c ks a.1)
      (all_map (under k) (λ s. All (λ t. Before s.word t.word) (across M f c ks)) (entered f (M.try c k)) (cross (entered f (M.try c k)))),
)
  where
    under_k : List Try
    under_k = map (under k) (entered f (M.try c k))

    fine : Fine (entered f (M.try c k))
    fine = fine_below M f h (M.try c k)

    others : All (λ t. Begins (λ j. k < j) t.word) (across M f c ks)
    others = heads M f c (λ j. k < j) ks a.0

    cross : (l : List Try) → All (λ s. All (λ t. Before (k ∷ s.word) t.word) (across M f c ks)) l
    cross [] = tt
    cross (s ∷ l) = (all_imp (λ t. Begins (λ j. k < j) t.word) (λ t. Before (k ∷ s.word) t.word) (λ t b. ahead_of s.word b) (across M f c ks) others, cross l)

fine_across : (M : Machine) (f : M.Conf → List Try) → ((d : M.Conf) → Fine (f d)) → (c : M.Conf) (ks : List ℕ) → Sorted ◌<◌ ks → Fine (across M f c ks)
fine_across M f h c ks a = (
  all_imp (λ t. Begins (λ j. Unit {0}) t.word) (λ t. Before [] t.word) (λ t b. not_empty b) (across M f c ks) (heads M f c (λ j. Unit {0}) ks (units ks)),
  sorted_across M f h c ks a,
)
  where
    units : (l : List ℕ) → All (λ j. Unit {0}) l
    units [] = tt
    units (x ∷ l) = (tt, units l)

module _ (M : Machine) (C : Coded M) where
  -- no try is empty, and the list of all tries rises
  pub fine_trails : (n : ℕ) (c : M.Conf) → All (λ t. Before [] t.word) (trails M n c) × Sorted (λ s t. Before s.word t.word) (trails M n c)
  unfolding trails
  fine_trails zero c = (tt, tt)
  fine_trails (suc n) c = fine_across M (trails M n) (fine_trails n) c M.codes C.rise

all_bad_in : (P : List ℕ → Type 0) (l : List Try) → All (λ t. P t.word) l → All P (bad_in l)
all_bad_in P [] a = tt
all_bad_in P (t ∷ l) a = go t.mark (all_bad_in P l a.1)
  where
    go : (m : Mark) → All P (bad_in l) → All P (bad_and m t.word (bad_in l))
    go plain r = r
    go sized r = r
    go bad r = (a.0, r)

sorted_bad : (l : List Try) → Sorted (λ s t. Before s.word t.word) l → Sorted Before (bad_in l)
sorted_bad [] a = tt
sorted_bad (t ∷ l) a = go t.mark (sorted_bad l a.1)
  where
    go : (m : Mark) → Sorted Before (bad_in l) → Sorted Before (bad_and m t.word (bad_in l))
    go plain r = r
    go sized r = r
    go bad r = (all_bad_in (Before t.word) l a.0, r)

-- the list of all bad schedules strictly rises in dictionary order
pub all_bad_rises : (M : Machine) (C : Coded M) (n : ℕ) → Sorted Before (all_bad M n)
unfolding all_bad
all_bad_rises M C n = sorted_bad (trails M n M.fresh) (fine_trails M C n M.fresh).1
