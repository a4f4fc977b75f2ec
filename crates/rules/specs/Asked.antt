-- What an action asks of the table: that it does not fit (10), a label to keep, or a term to make.
use Rattle.std.specs.Prelude.{ℕ}
use Rattle.terms.specs.declared.term.Term.{Term}

pub data Want : Type 0 where
  Refuse : Want
  Keep : ℕ → Want
  Make : Term → Want
