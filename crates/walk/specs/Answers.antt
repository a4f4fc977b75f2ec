-- A search that keeps its places in another way (a struct with an array) and answers as the walk does. `view` reads its places,
-- Ok says which of them are good: such as document 01 does not refuse by 40, and of the right shape. Can says which budgets it takes:
-- 'the budget (0 to 4,294,967,295)'.
use Rattle.std.specs.Prelude.{ℕ, ◌≡◌}
use Rattle.walk.specs.Machine.{Machine}
use Rattle.walk.specs.Reply.{Reply}
use Rattle.walk.specs.Place.{Place}
use Rattle.walk.specs.Walk.{reply, search}

abbrev pub seen : {P : Type 0} → (P → Place) → Reply P → Reply Place
seen view r = reply r.kind r.tries r.sizes (view r.place)

-- any budget whatever
abbrev pub AnyBudget : ℕ → Type 0
AnyBudget b = Unit {0}

pub record Answers (M : Machine) (n : ℕ) {P : Type 0} (call : ℕ → P → Reply P) (view : P → Place) (Can : ℕ → Type 0) (Ok : P → Type 0) : Type 0 where
  pub is : (b : ℕ) (p : P) → Can b → Ok p → seen view (call b p) ≡ search M n b (view p)
  pub on : (b : ℕ) (p : P) → Can b → Ok p → Ok (call b p).place
