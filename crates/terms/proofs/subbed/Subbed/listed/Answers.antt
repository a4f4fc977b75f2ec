-- `terms::subbed::Subbed::listed` meets its contract: both numbers fit into their places.
use Rattle.terms.proofs.Answers.{answer_label}
use borrow.Author.Rules.{rules}
use Rattle.terms.proofs.subbed.Subbed.listed.Goals as goal

pub returns : goal.returns
returns c = rw (c.from.ensures, c.from-2.ensures) (answer_label c.args.label c.args.count (search rules) (search rules))
