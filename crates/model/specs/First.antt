-- The first number that passes a test.
use Rattle.std.specs.Prelude.{ℕ, zero, suc, ◌+◌, Bool}
use Rattle.terms.specs.Base.{pick}

-- the first of n numbers from i on of which the test holds, the number after them where there is none
unfoldable pub first_from : ℕ → ℕ → (ℕ → Bool) → ℕ
first_from zero i p = i
first_from (suc n) i p = pick (p i) i (first_from n (i + 1) p)
