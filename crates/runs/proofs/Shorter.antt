-- The library's lesser number is the definition's.
use Prim.Native.Nat.{ℕ, min}
use mathlib.Core.Path.{◌≡◌}
use native.Mathlib.Omega.{arith}
use borrow.Author.Tests.{lt-ltb, le-ltb}
use Rattle.runs.specs.Run.{shorter}

pub min_shorter : (m n : ℕ) → min m n ≡ shorter m n
unfolding shorter
min_shorter m n = grind (arith, lt-ltb, le-ltb)
