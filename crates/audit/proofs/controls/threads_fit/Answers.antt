-- `audit::controls::threads_fit` meets its contract: `all` over the numbers is the test on each of them.
use Rattle.std.proofs.Common.{rules, refl}
use borrow.Author.Tests.{tests}
use Rattle.terms.proofs.Chains.{all_below}
use Rattle.audit.specs.Configuration.{threads_fit}
use Rattle.audit.proofs.controls.threads_fit.Goals as goal

pub returns : goal.returns
unfolding threads_fit
returns c = all_below _ 4 c.all.ensures.ran refl (λ x b q k. search (rules, tests))
