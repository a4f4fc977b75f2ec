-- `terms::subbed::Subbed::refused` meets its contract: the count fits into its place.
use Rattle.terms.proofs.Answers.{answer_deep, answer_full}
use borrow.Author.Rules.{rules}
use Rattle.terms.proofs.subbed.Subbed.refused.Goals as goal

pub returns-in-Deep : goal.returns-in-Deep
returns-in-Deep c = rw (c.in-Deep.is, c.from.ensures) (answer_deep c.args.count (search rules))

pub returns-in-Full : goal.returns-in-Full
returns-in-Full c = rw (c.in-Full.is, c.from-in-Full.ensures) (answer_full c.args.count (search rules))
