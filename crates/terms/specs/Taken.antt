-- What came of entering both operands of an action, as the definitions say it.
use Rattle.std.specs.Prelude.{ℕ}

-- both labels, or one is too deep, or there is no room for both
pub data Taken : Type 0 where
  Labels : ℕ → ℕ → Taken
  Deep : Taken
  Full : Taken

-- and the count of terms then
pub record Operands : Type 0 where
  pub taken : Taken
  pub count : ℕ
