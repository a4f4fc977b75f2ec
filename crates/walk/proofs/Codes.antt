-- The codes from a number on, in a rising list. Only here is it used that the codes rise and lie below the number for none left.
-- `from_head` is the one law that the walk turns on.
use Prim.Native.Nat.{ℕ, suc, ◌≤◌, ◌<◌}
use mathlib.Core.Path.{◌≡◌, refl, ap, ◌∙◌}
use mathlib.Core.Logic.{◌⊎◌, inl, inr}
use mathlib.Core.Bool.{Bool, true, false}
use mathlib.Core.List.{List, [], ◌∷◌, ◌++◌, Memᴰ, head-eq_of_cons-eq, tail-eq_of_cons-eq, nil≢cons}
use native.Mathlib.Omega.{arith}
use lib.Dec.{ltb, eqb}
use borrow.Author.Tests.{lt-ltb, le-ltb, eqb-true, eq-eqb}
use Rattle.walk.specs.Base.{pick, either, among, All}
use Rattle.walk.specs.Order.{Sorted}
use Rattle.walk.specs.Place.{from, lowest}
use Rattle.walk.proofs.Lists.{all_at}

-- a code is among the codes, by the test and by membership
pub among_mem : (k : ℕ) (xs : List ℕ) → among k xs ≡ true → Memᴰ k xs
among_mem k [] e = absurd (let z : ◌≡◌ {A = ℕ} 0 1 = cc in omega arith)
among_mem k (x ∷ xs) e = go (eqb k x) refl e (among_mem k xs)
  where
    go : (b : Bool) → eqb k x ≡ b → either b (among k xs) ≡ true → (among k xs ≡ true → Memᴰ k xs) → Memᴰ k (x ∷ xs)
    go true q h rest = mathlib.Core.List.Memᴰ.head (eqb-true k x q)
    go false q h rest = mathlib.Core.List.Memᴰ.tail (rest h)

pub mem_among : {k : ℕ} {xs : List ℕ} → Memᴰ k xs → among k xs ≡ true
mem_among {k} (mathlib.Core.List.Memᴰ.head {x = x} e) = rw (eq-eqb k x e)
mem_among {k} (mathlib.Core.List.Memᴰ.tail {x = x} {xs = xs} m) = go (eqb k x) (mem_among m)
  where
    go : (b : Bool) → among k xs ≡ true → either b (among k xs) ≡ true
    go true h = refl
    go false h = h

-- it is there, or it is not
pub mem_or_not : (k : ℕ) (xs : List ℕ) → Memᴰ k xs ⊎ (¬ Memᴰ k xs)
mem_or_not k xs = go (among k xs) refl
  where
    go : (b : Bool) → among k xs ≡ b → Memᴰ k xs ⊎ (¬ Memᴰ k xs)
    go true e = inl (among_mem k xs e)
    go false e = inr (λ m. let h : among k xs ≡ true = mem_among m in let z : ◌≡◌ {A = ℕ} 0 1 = cc in omega arith)

-- where no code is below k, all are left; where all are, none
pub from_all : (k : ℕ) (xs : List ℕ) → All (λ x. k ≤ x) xs → from k xs ≡ xs
from_all k [] a = refl
from_all k (x ∷ xs) a = rw (le-ltb x k a.0)

pub from_past : (k : ℕ) (xs : List ℕ) → All (λ x. x < k) xs → from k xs ≡ []
from_past k [] a = refl
from_past k (x ∷ xs) a = rw (lt-ltb x k a.0) (from_past k xs a.1)

-- all codes from 0 on, and from the lowest on
pub from_zero : (xs : List ℕ) → from 0 xs ≡ xs
from_zero [] = refl
from_zero (x ∷ xs) = rw (le-ltb x 0 (omega arith))

pub from_first : (n : ℕ) (xs : List ℕ) → from (lowest n xs) xs ≡ xs
from_first n [] = refl
from_first n (x ∷ xs) = rw (le-ltb x x (omega arith))

-- what is left is an end part of the codes
pub from_split : (k : ℕ) (xs : List ℕ) → (pre : List ℕ) × (xs ≡ pre ++ from k xs)
from_split k [] = ([], refl)
from_split k (x ∷ xs) = go (ltb x k) (from_split k xs)
  where
    go : (b : Bool) → ((pre : List ℕ) × (xs ≡ pre ++ from k xs)) → (pre : List ℕ) × (x ∷ xs ≡ pre ++ pick b (from k xs) (x ∷ xs))
    go true s = (x ∷ s.0, ap {B = List ℕ} (λ r. x ∷ r) s.1)
    go false s = ([], refl)

pub from_mem : (k : ℕ) {x : ℕ} (xs : List ℕ) → Memᴰ x (from k xs) → Memᴰ x xs
from_mem k [] m = m
from_mem k {x} (y ∷ ys) m = go (ltb y k) m (from_mem k ys)
  where
    go : (b : Bool) → Memᴰ x (pick b (from k ys) (y ∷ ys)) → (Memᴰ x (from k ys) → Memᴰ x ys) → Memᴰ x (y ∷ ys)
    go true h rest = mathlib.Core.List.Memᴰ.tail (rest h)
    go false h rest = h

-- the first code that is left names the codes left, and the number after it the codes after it
pub from_head : (xs : List ℕ) → Sorted ◌<◌ xs → (k x : ℕ) (ks : List ℕ) → from k xs ≡ x ∷ ks → (from x xs ≡ x ∷ ks) × (from (suc x) xs ≡ ks)
from_head [] s k x ks e = absurd (nil≢cons e)
from_head (y ∷ ys) s k x ks e = go (ltb y k) e (from_head ys s.1 k x ks)
  where
    go : (b : Bool) → pick b (from k ys) (y ∷ ys) ≡ x ∷ ks → (from k ys ≡ x ∷ ks → (from x ys ≡ x ∷ ks) × (from (suc x) ys ≡ ks)) →
        (from x (y ∷ ys) ≡ x ∷ ks) × (from (suc x) (y ∷ ys) ≡ ks)
    go true h rest =
        let m : Memᴰ x ys = from_mem k ys (rw h (mathlib.Core.List.Memᴰ.head refl)) in
        let l : y < x = all_at (λ z. y < z) m s.0 in
        let r : (from x ys ≡ x ∷ ks) × (from (suc x) ys ≡ ks) = rest h in
        (rw (lt-ltb y x l) r.0, rw (lt-ltb y (suc x) (omega arith)) r.1)
    go false h rest =
        let q : y ≡ x = head-eq_of_cons-eq h in
        let t : ys ≡ ks = tail-eq_of_cons-eq h in
        let above : All (λ z. suc x ≤ z) ys = rw q at s.0 in
        (rw (le-ltb y x (omega arith)) h, rw (lt-ltb y (suc x) (omega arith)) (from_all (suc x) ys above ∙ t))

-- a code of the list is the first of the codes from it on
pub from_at : {k : ℕ} {xs : List ℕ} → Sorted ◌<◌ xs → Memᴰ k xs → from k xs ≡ k ∷ from (suc k) xs
from_at {k} s (mathlib.Core.List.Memᴰ.head {x = x} {xs = xs} e) =
    let above : All (λ z. suc k ≤ z) xs = rw (← e) at s.0 in
    rw (le-ltb x k (omega arith), lt-ltb x (suc k) (omega arith), from_all (suc k) xs above, e)
from_at {k} s (mathlib.Core.List.Memᴰ.tail {x = x} {xs = xs} m) =
    let l : x < k = all_at (λ z. x < z) m s.0 in
    rw (lt-ltb x k l, lt-ltb x (suc k) (omega arith)) (from_at s.1 m)
