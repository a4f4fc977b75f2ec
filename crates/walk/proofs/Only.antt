-- Dictionary order is a strict order, so a rising list is known by what it holds: the list of all bad schedules is the only one that
-- rises and holds exactly the bad schedules, and likewise the list of all tries.
use Prim.Native.Nat.{ℕ, ◌≤◌, ◌<◌}
use mathlib.Core.Path.{◌≡◌, refl, sym, ap, ◌∙◌}
use mathlib.Core.Logic.{◌↔◌, ◌⊎◌, inl, inr}
use mathlib.Core.List.Memᴰ
use mathlib.Core.List.{List, [], ◌∷◌, Memᴰ, head-eq_of_cons-eq, tail-eq_of_cons-eq, nil≢cons}
use native.Mathlib.Omega.{arith}
use lib.ListN.{length}
use Rattle.walk.specs.Base.{All}
use Rattle.walk.specs.Order.{Before, shorter, lower, later, Sorted}
use Rattle.walk.specs.Machine.{Machine, Coded}
use Rattle.walk.specs.Bad.{Bad}
use Rattle.walk.specs.Trail.{Try, Tried, trails, all_bad}
use Rattle.walk.proofs.Lists.{all_at}
use Rattle.walk.proofs.Member.{mem_trails, mem_all_bad}
use Rattle.walk.proofs.Rises.{fine_trails, all_bad_rises}

-- no schedule stands before itself
pub before_ne : {v w : List ℕ} → Before v w → v ≡ w → ⊥
before_ne shorter e = nil≢cons e
before_ne (lower l) e = let q = head-eq_of_cons-eq e in omega arith
before_ne (later b) e = before_ne b (tail-eq_of_cons-eq e)

pub before_trans : {u v w : List ℕ} → Before u v → Before v w → Before u w
before_trans shorter (lower m) = shorter
before_trans shorter (later c) = shorter
before_trans (lower {j = i} l) (lower {k = k} m) = let h : i < k = omega arith in lower h
before_trans (lower l) (later c) = lower l
before_trans (later b) (lower m) = lower m
before_trans (later b) (later c) = later (before_trans b c)

module _ {A : Type 0} (R : A → A → Type 0) (ne : (x y : A) → R x y → x ≡ y → ⊥) (trans : (x y z : A) → R x y → R y z → R x z) where
  -- the heads of two rising lists with the same members are the same
  same_head : (x y : A) (xs ys : List A) → All (R x) xs → All (R y) ys → (x ≡ y) ⊎ Memᴰ x ys → (y ≡ x) ⊎ Memᴰ y xs → x ≡ y
  same_head x y xs ys a b (inl e) d = e
  same_head x y xs ys a b (inr m) (inl e) = sym e
  same_head x y xs ys a b (inr m) (inr k) = absurd (ne x x (trans x y x (all_at (R x) k a) (all_at (R y) m b)) refl)

  -- what is in the rest of one is in the rest of the other
  in_rest : (x y : A) (xs ys : List A) → x ≡ y → All (R x) xs → (z : A) → Memᴰ z xs → (z ≡ y) ⊎ Memᴰ z ys → Memᴰ z ys
  in_rest x y xs ys e a z m (inl q) = absurd (ne x z (all_at (R x) m a) (e ∙ sym q))
  in_rest x y xs ys e a z m (inr k) = k

  pub sorted_once : (l r : List A) → Sorted R l → Sorted R r → ((x : A) → Memᴰ x l → Memᴰ x r) → ((x : A) → Memᴰ x r → Memᴰ x l) → l ≡ r
  sorted_once [] [] a b f g = refl
  sorted_once [] (y ∷ ys) a b f g = absurd (Memᴰ.not-nil (g y (Memᴰ.head refl)))
  sorted_once (x ∷ xs) [] a b f g = absurd (Memᴰ.not-nil (f x (Memᴰ.head refl)))
  sorted_once (x ∷ xs) (y ∷ ys) a b f g =
      let e : x ≡ y =
      same_head x y xs ys a.0 b.0 (Memᴰ.cases_cons (f x (Memᴰ.head refl))) (Memᴰ.cases_cons (g y (Memᴰ.head refl))) in
      let t : xs ≡ ys =
      sorted_once xs ys a.1 b.1 (λ z m. in_rest x y xs ys e a.0 z m (Memᴰ.cases_cons (f z (Memᴰ.tail m))))
      (λ z m. in_rest y x ys xs (sym e) b.0 z m (Memᴰ.cases_cons (g z (Memᴰ.tail m)))) in
      λ i. e i ∷ t i

module _ (M : Machine) (C : Coded M) (n : ℕ) where
  -- no second list is the list of all bad schedules
  pub only_all_bad : (l : List (List ℕ)) → Sorted Before l → ((w : List ℕ) → Memᴰ w l ↔ (Bad M M.fresh w × (length w ≤ n))) → l ≡ all_bad M n
  only_all_bad l s h =
      sorted_once Before (λ v w b e. before_ne b e) (λ u v w a b. before_trans a b) l (all_bad M n) s (all_bad_rises M C n)
      (λ w m. (mem_all_bad M C n w).1 ((h w).0 m)) (λ w m. (h w).1 ((mem_all_bad M C n w).0 m))

  -- no second list is the list of all tries
  pub only_trails : (l : List Try) → Sorted (λ s t. Before s.word t.word) l →
      ((t : Try) → Memᴰ t l ↔ (Tried M M.fresh t.word t.mark × (length t.word ≤ n))) → l ≡ trails M n M.fresh
  only_trails l s h =
      sorted_once (λ (x y : Try). Before x.word y.word) (λ v w b e. before_ne b (ap (λ (t : Try). t.word) e)) (λ u v w a b. before_trans a b) l
      (trails M n M.fresh) s (fine_trails M C n M.fresh).1 (λ t m. (mem_trails M C n t).1 ((h t).0 m)) (λ t m. (h t).1 ((mem_trails M C n t).0 m))
