-- `audit::controls::begins_with` meets its contract: `all` over the numbers is the test on each of them.
use Rattle.std.proofs.Common.{rules, refl}
use borrow.Author.Tests.{tests}
use Rattle.terms.proofs.Chains.{all_below}
use Rattle.audit.specs.Configuration.{begins_with}
use Rattle.audit.proofs.controls.begins_with.Goals as goal

pub returns : goal.returns
unfolding begins_with
returns c = all_below _ c.args.count c.all.ensures.ran refl (λ x b q k. search (rules, tests))
