-- A machine as the search sees it: a fresh configuration, and what comes of trying a code in a configuration.
-- The model's machine is one of these, the machine without limits another; nothing here knows of terms or threads.
use Rattle.std.specs.Prelude.{ℕ, ◌<◌, ◌≡◌}
use mathlib.Core.List.{List, Memᴰ}
use Rattle.walk.specs.Base.{All}
use Rattle.walk.specs.Order.{Sorted}

-- what comes of trying one code
pub data Outcome (C : Type 0) : Type 0 where
  -- not permitted, for a reason other than size
  refused : Outcome C
  -- not permitted, 'refused by 8 or 9'
  too_big : Outcome C
  -- permitted, and the claim still stands in the configuration after it
  goes : C → Outcome C
  -- permitted, and this step breaks the claim
  breaks : Outcome C

pub record Machine : Type 1 where
  pub Conf : Type 0
  -- 'Every schedule runs from the model's fresh configuration'
  pub fresh : Conf
  pub try : Conf → ℕ → Outcome Conf
  -- the real codes: these alone make 'pairs of schedule and code'
  pub codes : List ℕ
  -- 'the next code to try (164: none left)'
  pub none : ℕ

-- what the search asks of a machine: its codes rise, all are below the number that says none left, and what is no code is refused
pub record Coded (M : Machine) : Type 0 where
  pub rise : Sorted ◌<◌ M.codes
  pub below : All (λ k. k < M.none) M.codes
  pub only : (c : M.Conf) (k : ℕ) → ¬ Memᴰ k M.codes → M.try c k ≡ refused
