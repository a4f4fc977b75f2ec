-- `audit::programs::equal_actions` meets its contract: `all` over the numbers is the test on each of them.
use Rattle.std.proofs.Common.{rules, refl}
use borrow.Author.Tests.{tests}
use Rattle.terms.proofs.Chains.{all_below}
use Rattle.audit.specs.Programs.{equal_actions}
use Rattle.audit.proofs.programs.equal_actions.Goals as goal

pub returns : goal.returns
unfolding equal_actions
returns c = all_below _ 16 c.all.ensures.ran refl (λ x b q k. search (rules, tests))
