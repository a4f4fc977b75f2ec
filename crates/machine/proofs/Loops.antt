-- One turn of each loop: what stands already, and what is still to come.
use Prim.Native.Nat.{ℕ, zero, suc, ◌+◌, ◌-◌, ◌<◌, ◌≤◌}
use mathlib.Core.Bool.{Bool, true, false}
use mathlib.Core.List.{List}
use mathlib.Core.Path.{◌≡◌, refl}
use native.Mathlib.Numerals.{sub-one}
use native.Mathlib.Nat.{sub-add-eq, sub-eq-zero_of_le}
use native.Mathlib.Omega.{arith}
use lib.ListN.{length, get_or}
use lib.Dec.{ltb}
use borrow.Author.Tests.{ltb-false}
use Rattle.std.proofs.lemmas.List.{get_or_past}
use Rattle.terms.specs.Base.{pick}
use Rattle.model.specs.Fields.{either}
use Rattle.model.specs.declared.records.Claim.{Claim}
use Rattle.machine.specs.Judge.{any_from, sum_from, follow_at, follow_from}

-- a test that one of some numbers passes
any_step : (k i : ℕ) (p : ℕ → Bool) → 0 < k → any_from k i p ≡ either (p i) (any_from (k - 1) (i + 1) p)
unfolding any_from
any_step zero i p h = absurd (omega arith)
any_step (suc k) i p h = rw sub-one

pub any_more : (n i : ℕ) (p : ℕ → Bool) → i < n → any_from (n - i) i p ≡ either (p i) (any_from (n - (i + 1)) (i + 1) p)
any_more n i p h = rw (sub-add-eq, any_step (n - i) i p (omega arith))

pub any_end : (n i : ℕ) (p : ℕ → Bool) → n ≤ i → any_from (n - i) i p ≡ false
unfolding any_from
any_end n i p h = rw sub-eq-zero_of_le

-- a sum
sum_step : (k i : ℕ) (f : ℕ → ℕ) → 0 < k → sum_from k i f ≡ f i + sum_from (k - 1) (i + 1) f
unfolding sum_from
sum_step zero i f h = absurd (omega arith)
sum_step (suc k) i f h = rw sub-one

pub sum_more : (n i : ℕ) (f : ℕ → ℕ) → i < n → sum_from (n - i) i f ≡ f i + sum_from (n - (i + 1)) (i + 1) f
sum_more n i f h = rw (sub-add-eq, sum_step (n - i) i f (omega arith))

pub sum_end : (n i : ℕ) (f : ℕ → ℕ) → n ≤ i → sum_from (n - i) i f ≡ 0
unfolding sum_from
sum_end n i f h = rw sub-eq-zero_of_le

-- the way along the path
module _ (l : List ℕ) (j : ℕ) (c : Claim) where
  follow_step : (n i k : ℕ) → 0 < n → follow_from n i l j c k ≡ follow_from (n - 1) (i + 1) l j c (follow_at l i j c k)
  unfolding follow_from
  follow_step zero i k h = absurd (omega arith)
  follow_step (suc n) i k h = rw sub-one

  pub follow_more : (n i k : ℕ) → i < n → follow_from (n - i) i l j c k ≡ follow_from (n - (i + 1)) (i + 1) l j c (follow_at l i j c k)
  follow_more n i k h = rw (sub-add-eq, follow_step (n - i) i k (omega arith))

  pub follow_end : (n i k : ℕ) → n ≤ i → follow_from (n - i) i l j c k ≡ k
  unfolding follow_from
  follow_end n i k h = rw sub-eq-zero_of_le

-- a place of a list so long, or 0 where there is none
pub place_or : (n : ℕ) (l : List ℕ) (k : ℕ) → length l ≡ n → get_or l k 0 ≡ pick (ltb k n) (get_or l k 0) 0
place_or n l k h = by (ltb k n) refl
  where
    by : (b : Bool) → ltb k n ≡ b → get_or l k 0 ≡ pick b (get_or l k 0) 0
    by true e = refl
    by false e = get_or_past l k 0 (omega (arith, h, ltb-false k n e))

-- nothing else is asked
pub either_none : (b : Bool) → either b false ≡ b
either_none true = refl
either_none false = refl
