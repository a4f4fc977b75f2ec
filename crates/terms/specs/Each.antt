-- A test on each of some numbers.
use Rattle.std.specs.Prelude.{ℕ, zero, suc, ◌+◌, Bool, true}
use Rattle.terms.specs.Base.{also}

-- the test holds of n numbers from i on
unfoldable pub all_from : ℕ → ℕ → (ℕ → Bool) → Bool
all_from zero i p = true
all_from (suc n) i p = also (p i) (all_from n (i + 1) p)

-- the test holds of each number below n
abbrev pub each : ℕ → (ℕ → Bool) → Bool
each n p = all_from n 0 p
