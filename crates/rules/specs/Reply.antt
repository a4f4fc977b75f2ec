-- What a step answers: refused by a number, or permitted with its event; beside it the configuration then.
use Rattle.std.specs.Prelude.{ℕ}
use Rattle.state.specs.declared.control.Control.{Control}
use Rattle.rules.specs.declared.event.Happening.{Happening}

pub data Reply : Type 0 where
  Refused : ℕ → Reply
  Permitted : Happening → Reply

pub record Stepped : Type 0 where
  pub reply : Reply
  pub control : Control
