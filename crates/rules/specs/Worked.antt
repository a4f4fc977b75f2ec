-- What the work of a step comes to: refused by a number, or done with these labels.
use Rattle.std.specs.Prelude.{ℕ}
use Rattle.rules.specs.declared.work.Labels.{Labels}

pub data Worked : Type 0 where
  Refused : ℕ → Worked
  Done : Labels → Worked
