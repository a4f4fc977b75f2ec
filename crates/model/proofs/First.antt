-- The first number that passes a test: one turn of a loop that looks for it.
use Prim.Native.Nat.{ℕ, zero, suc, ◌+◌, ◌-◌, ◌<◌, ◌≤◌}
use mathlib.Core.Bool.{Bool}
use mathlib.Core.Path.{◌≡◌}
use native.Mathlib.Numerals.{sub-one}
use native.Mathlib.Nat.{sub-add-eq, sub-eq-zero_of_le}
use native.Mathlib.Omega.{arith}
use Rattle.terms.specs.Base.{pick}
use Rattle.model.specs.First.{first_from}

first_step : (k i : ℕ) (p : ℕ → Bool) → 0 < k → first_from k i p ≡ pick (p i) i (first_from (k - 1) (i + 1) p)
unfolding first_from
first_step zero i p h = absurd (omega arith)
first_step (suc k) i p h = rw sub-one

pub first_more : (n i : ℕ) (p : ℕ → Bool) → i < n → first_from (n - i) i p ≡ pick (p i) i (first_from (n - (i + 1)) (i + 1) p)
first_more n i p h = rw (sub-add-eq, first_step (n - i) i p (omega arith))

pub first_end : (n i : ℕ) (p : ℕ → Bool) → n ≤ i → first_from (n - i) i p ≡ i
unfolding first_from
first_end n i p h = rw sub-eq-zero_of_le
