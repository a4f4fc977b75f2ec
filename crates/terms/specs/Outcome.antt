-- What came of adding a term, as the definitions say it.
use Rattle.std.specs.Prelude.{ℕ}

-- it was listed before, it is new, it is deeper than 16, or the table is full
pub data Outcome : Type 0 where
  Listed : ℕ → Outcome
  New : ℕ → Outcome
  Deep : Outcome
  Full : Outcome

-- and the count of terms then
pub record Added : Type 0 where
  pub outcome : Outcome
  pub count : ℕ
