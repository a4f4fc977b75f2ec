-- What an action's operands and result come to: refused by a number, or the result's label; beside it the labels of x and
-- y, and the terms in the table, those entered before a refusal too.
use Rattle.std.specs.Prelude.{ℕ}

pub data Out : Type 0 where
  Refused : ℕ → Out
  Label : ℕ → Out

pub record Tried : Type 0 where
  pub out : Out
  pub x : ℕ
  pub y : ℕ
  pub count : ℕ
