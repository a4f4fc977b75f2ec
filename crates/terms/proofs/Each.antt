-- A test on each of some numbers: one turn of a loop, and what it says of any one number.
use Prim.Native.Nat.{ℕ, zero, suc, ◌+◌, ◌-◌, ◌<◌, ◌≤◌}
use mathlib.Core.Bool.{Bool, true, false}
use mathlib.Core.Path.{◌≡◌, refl}
use native.Mathlib.Numerals.{sub-one}
use native.Mathlib.Nat.{sub-add-eq, sub-eq-zero_of_le}
use native.Mathlib.Omega.{arith}
use lib.Dec.{ltb}
use borrow.Author.Tests.{ltb-true, ltb-false}
use Rattle.terms.specs.Base.{also}
use Rattle.terms.specs.Each.{all_from, each}
use Rattle.terms.proofs.Meaning.{also_left, also_right, also_both}

-- one number
all_step : (k i : ℕ) (p : ℕ → Bool) → 0 < k → all_from k i p ≡ also (p i) (all_from (k - 1) (i + 1) p)
unfolding all_from
all_step zero i p h = absurd (omega arith)
all_step (suc k) i p h = rw sub-one

pub all_more : (n i : ℕ) (p : ℕ → Bool) → i < n → all_from (n - i) i p ≡ also (p i) (all_from (n - (i + 1)) (i + 1) p)
all_more n i p h = rw (sub-add-eq, all_step (n - i) i p (omega arith))

pub all_end : (n i : ℕ) (p : ℕ → Bool) → n ≤ i → all_from (n - i) i p ≡ true
unfolding all_from
all_end n i p h = rw sub-eq-zero_of_le

-- what holds of each holds of any one, and the way back
pub all_at : (n i : ℕ) (p : ℕ → Bool) → all_from n i p ≡ true → (j : ℕ) → i ≤ j → j < i + n → p j ≡ true
unfolding all_from
all_at zero i p e j h k = absurd (omega arith)
all_at (suc n) i p e j h k = go (ltb i j) refl (all_at n (i + 1) p (also_right (p i) (all_from n (i + 1) p) e) j)
  where
    go : (b : Bool) → ltb i j ≡ b → (i + 1 ≤ j → j < i + 1 + n → p j ≡ true) → p j ≡ true
    go true f ih = ih (omega (arith, ltb-true i j f)) (omega arith)
    go false f ih = let s : j ≡ i = omega (arith, ltb-false i j f) in rw s (also_left (p i) (all_from n (i + 1) p) e)

pub at_all : (n i : ℕ) (p : ℕ → Bool) → ((j : ℕ) → i ≤ j → j < i + n → p j ≡ true) → all_from n i p ≡ true
unfolding all_from
at_all zero i p f = refl
at_all (suc n) i p f = also_both (f i (omega arith) (omega arith)) (at_all n (i + 1) p (λ j h k. f j (omega arith) (omega arith)))

pub each_at : (n : ℕ) (p : ℕ → Bool) → each n p ≡ true → (i : ℕ) → i < n → p i ≡ true
each_at n p e i h = all_at n 0 p e i (omega arith) (omega arith)

pub at_each : (n : ℕ) (p : ℕ → Bool) → ((i : ℕ) → i < n → p i ≡ true) → each n p ≡ true
at_each n p f = at_all n 0 p (λ j h k. f j (omega arith))
