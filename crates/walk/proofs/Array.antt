-- The walk over a program's places answers as the walk does. Each place of the array stands for the pair that it names (`Is`),
-- and every turn keeps that; the array keeps its length.
use Prim.Native.Nat.{ℕ, zero, suc, ◌≤◌, ◌<◌}
use mathlib.Core.Path.{◌≡◌, refl, sym, ap, ap₂, ◌∙◌, subst}
use mathlib.Core.Bool.{Bool, true, false}
use mathlib.Core.List.Memᴰ
use mathlib.Core.List.{List, [], ◌∷◌, ◌++◌, reverse, reverse_aux, append_assoc}
use native.Mathlib.Omega.{arith}
use lib.ListN.{length, get_or, set, take, length-set}
use lib.Seq.{take-suc, get_or-set_same, get_or-set_other}
use lib.Dec.{ltb, eqb}
use borrow.Author.Tests.{eq-eqb, ne_eqb}
use Rattle.walk.specs.Base.{pick}
use Rattle.walk.specs.Machine.{Machine, Coded, Outcome, refused, too_big, goes, breaks}
use Rattle.walk.specs.Reply.{found, stop, end, Reply}
use Rattle.walk.specs.Trail.{Mark, plain, sized, bad, mark_of}
use Rattle.walk.specs.Place.{Place, Next, over, pair, from, settle, place_of, next_in, at, unbroken, fits}
use Rattle.walk.specs.Walk.{reply, after, turn, walk, search}
use Rattle.walk.specs.Answers.{AnyBudget, Answers, seen}
use Rattle.walk.specs.Array.{Spot, stack_of, view, word_of, settled_in, after_in, turn_in, walk_in, search_in}
use Rattle.walk.proofs.Lists.{all_at}
use Rattle.walk.proofs.Codes.{from_mem, from_zero}
use Rattle.walk.proofs.Fit.{Fit, fits_parts, settle_fit, after_fit, search_fits}

-- the first j codes, as a stack and as an array
pub length_stack : (cs : List ℕ) (j : ℕ) → length (stack_of cs j) ≡ j
unfolding stack_of
length_stack cs zero = refl
length_stack cs (suc j) = ap suc (length_stack cs j)

pub stack_set : (cs : List ℕ) (j i v : ℕ) → j ≤ i → stack_of (set cs i v) j ≡ stack_of cs j
unfolding stack_of
stack_set cs zero i v l = refl
stack_set cs (suc j) i v l = ap₂ (λ (x : ℕ) (r : List ℕ). x ∷ r) (get_or-set_other cs i j v 0 (omega arith)) (stack_set cs j i v (omega arith))

pub stack_push : (cs : List ℕ) (j v : ℕ) → j < length cs → stack_of (set cs j v) (suc j) ≡ v ∷ stack_of cs j
unfolding stack_of
stack_push cs j v l = ap₂ (λ (x : ℕ) (r : List ℕ). x ∷ r) (get_or-set_same cs j v 0 l) (stack_set cs j j v (omega arith))

pub stack_reads : (cs : List ℕ) (j : ℕ) (r : List ℕ) → j ≤ length cs → reverse_aux (stack_of cs j) r ≡ take j cs ++ r
unfolding stack_of
stack_reads cs zero r l = refl
stack_reads cs (suc j) r l =
    stack_reads cs j (get_or cs j 0 ∷ r) (omega arith) ∙ sym (append_assoc (take j cs) (get_or cs j 0 ∷ []) r) ∙
    ap (λ (s : List ℕ). s ++ r) (sym (take-suc cs j 0 l))

-- no pair is left
abbrev is_over : Next → Bool
is_over over = true
is_over (pair up k) = false

-- the place in the array names the pair, has room for the array's length, and its next code tells whether a pair is left
record Is (M : Machine) (k : ℕ) (q : Spot) (nx : Next) : Type 0 where
  names : view q ≡ place_of M nx
  tells : eqb q.next M.none ≡ is_over nx
  long : length q.codes ≡ k

module _ (M : Machine) (C : Coded M) (n : ℕ) where
  is_pair : (cs : List ℕ) (j k : ℕ) (ks : List ℕ) (i : ℕ) (up : List ℕ) → from i M.codes ≡ k ∷ ks → stack_of cs j ≡ up →
      Is M (length cs) (record { codes = cs; len = j; next = k }) (pair up k)
  is_pair cs j k ks i up e s =
      let l : k < M.none = all_at (λ x. x < M.none) (from_mem i M.codes (rw e (Memᴰ.head refl))) C.below in
      record { names = λ x. record { up = s x; next = k }; tells = ne_eqb k M.none (λ q. omega arith); long = refl }

  settle_is : (cs : List ℕ) (j : ℕ) (ks : List ℕ) (i : ℕ) → from i M.codes ≡ ks → Is M (length cs) (settled_in M cs j ks) (settle M (stack_of cs j) ks)
  unfolding settled_in settle stack_of
  settle_is cs zero [] i e = record { names = refl; tells = eq-eqb M.none M.none refl; long = refl }
  settle_is cs zero (k ∷ ks) i e = is_pair cs zero k ks i [] e refl
  settle_is cs (suc j) [] i e =
      let ih = settle_is (set cs j 0) j (from (suc (get_or cs j 0)) M.codes) (suc (get_or cs j 0)) refl in
      let ih' : Is M (length (set cs j 0)) (settled_in M (set cs j 0) j (from (suc (get_or cs j 0)) M.codes))
      (settle M (stack_of cs j) (from (suc (get_or cs j 0)) M.codes)) = rw (stack_set cs j j 0 (omega arith)) at ih in
      rw (length-set cs j 0) at ih'
  settle_is cs (suc j) (k ∷ ks) i e = is_pair cs (suc j) k ks i (get_or cs j 0 ∷ stack_of cs j) e refl

  -- the place after a try
  after_is : (q : Spot) (o : Outcome M.Conf) → q.len < length q.codes →
      Is M (length q.codes) (after_in M n q o) (after M n (stack_of q.codes q.len) q.next o)
  unfolding after_in after
  after_is q refused l = settle_is q.codes q.len (from (suc q.next) M.codes) (suc q.next) refl
  after_is q too_big l = settle_is q.codes q.len (from (suc q.next) M.codes) (suc q.next) refl
  after_is q (goes d) l = rw (length_stack q.codes q.len) (go (ltb (suc q.len) n))
    where
      down : Is M (length q.codes) (settled_in M (set q.codes q.len q.next) (suc q.len) M.codes)
          (settle M (q.next ∷ stack_of q.codes q.len) M.codes)
      down =
          rw (stack_push q.codes q.len q.next l, length-set q.codes q.len q.next) at
          (settle_is (set q.codes q.len q.next) (suc q.len) M.codes 0 (from_zero M.codes))

      go : (b : Bool) → Is M (length q.codes)
          (pick b (settled_in M (set q.codes q.len q.next) (suc q.len) M.codes) (settled_in M q.codes q.len (from (suc q.next) M.codes)))
          (pick b (settle M (q.next ∷ stack_of q.codes q.len) M.codes) (settle M (stack_of q.codes q.len) (from (suc q.next) M.codes)))
      go true = down
      go false = settle_is q.codes q.len (from (suc q.next) M.codes) (suc q.next) refl
  after_is q breaks l = settle_is q.codes q.len (from (suc q.next) M.codes) (suc q.next) refl

-- one answer seen as another, its array of length k
record Same (k : ℕ) (a : Reply Spot) (r : Reply Place) : Type 0 where
  same : seen view a ≡ r
  long : length a.place.codes ≡ k

module _ (M : Machine) (C : Coded M) (n k : ℕ) (room : n ≤ k) where
  by_mark : (m : Mark) (v w : List ℕ) → v ≡ w → (q : Spot) (nx : Next) → Is M k q nx → (f : Spot → ℕ → ℕ → Reply Spot) (g : Next → ℕ → ℕ → Reply Place) →
      (t z : ℕ) → ((t' z' : ℕ) → Same k (f q t' z') (g nx t' z')) → Same k (turn_in m v q f t z) (turn M m w nx g t z)
  by_mark plain v w e q nx i f g t z ih = ih (suc t) z
  by_mark sized v w e q nx i f g t z ih = ih (suc t) (suc z)
  by_mark bad v w e q nx i f g t z ih = record { same = λ x. reply (found (e x)) (suc t) z (i.names x); long = i.long }

  -- the walk on the array is the walk
  walk_is : (b : ℕ) (q : Spot) (nx : Next) (t z : ℕ) → Is M k q nx → Fit M n (place_of M nx) → Same k (walk_in M b n q t z) (walk M b n nx t z)
  unfolding walk_in walk word_of
  walk_is zero q over t z i f = rw i.tells (record { same = ap (reply end t z) i.names; long = i.long })
  walk_is zero q (pair up j) t z i f = rw i.tells (record { same = ap (reply stop t z) i.names; long = i.long })
  walk_is (suc b) q over t z i f = rw i.tells (record { same = ap (reply end t z) i.names; long = i.long })
  walk_is (suc b) q (pair up j) t z i f =
      let su : stack_of q.codes q.len ≡ up = ap (λ (p : Place). p.up) i.names in
      let sj : q.next ≡ j = ap (λ (p : Place). p.next) i.names in
      let c : M.Conf = at M (stack_of q.codes q.len) in
      let o : Outcome M.Conf = M.try c q.next in
      let g : unbroken M (stack_of q.codes q.len) ≡ true = rw su f.good in
      let l : length (stack_of q.codes q.len) < n = rw su f.short in
      let l' : q.len < length q.codes = omega (arith, length_stack q.codes q.len, i.long) in
      let w : word_of q ≡ reverse (q.next ∷ stack_of q.codes q.len) =
      sym (stack_reads q.codes q.len (q.next ∷ []) (omega arith)) in
      let a : Is M k (after_in M n q o) (after M n (stack_of q.codes q.len) q.next o) = rw i.long at (after_is M C n q o l') in
      let h : Fit M n (place_of M (after M n (stack_of q.codes q.len) q.next o)) = after_fit M n (stack_of q.codes q.len) q.next o refl g l in
      rw (i.tells, ← su, ← sj)
      (by_mark (mark_of o) (word_of q) (reverse (q.next ∷ stack_of q.codes q.len)) w (after_in M n q o)
      (after M n (stack_of q.codes q.len) q.next o) a (walk_in M b n) (walk M b n) t z
      (λ t' z'. walk_is b (after_in M n q o) (after M n (stack_of q.codes q.len) q.next o) t' z' a h))

-- the good places of a program: document 01 does not refuse them by 40, and the array has its length
abbrev pub Ok : Machine → ℕ → ℕ → Spot → Type 0
Ok M n k q = (fits M n (view q) ≡ true) × (length q.codes ≡ k)

search_is : (M : Machine) → Coded M → (n k : ℕ) → n ≤ k → (b : ℕ) (q : Spot) → Ok M n k q → Same k (search_in M n b q) (search M n b (view q))
unfolding search_in search
search_is M C n k room b q ok =
    let f : Fit M n (view q) = fits_parts M n (view q) ok.0 in
    let i : Is M k (settled_in M q.codes q.len (from q.next M.codes)) (next_in M (view q)) =
    rw ok.1 at (settle_is M C n q.codes q.len (from q.next M.codes) q.next refl) in
    walk_is M C n k room b (settled_in M q.codes q.len (from q.next M.codes)) (next_in M (view q)) 0 0 i
    (settle_fit M n (stack_of q.codes q.len) (from q.next M.codes) q.next refl f.good f.short)

-- a program's search answers as the walk does
pub program : (M : Machine) → Coded M → (n k : ℕ) → n ≤ k → Answers M n (search_in M n) view AnyBudget (Ok M n k)
program M C n k room = record {
  is = λ b q can ok. (search_is M C n k room b q ok).same;
  on = λ b q can ok. (
    subst (λ (p : Place). fits M n p ≡ true) (sym (ap (λ (r : Reply Place). r.place) (search_is M C n k room b q ok).same))
        (search_fits M n b (view q) ok.0),
    (search_is M C n k room b q ok).long,
  );
}
