-- `audit::models::terms_listed` meets its contract: `all` over the labels is the test on each of them.
use Rattle.std.proofs.Common.{rules, refl}
use borrow.Author.Tests.{tests}
use Rattle.terms.proofs.Chains.{all_in_range}
use Rattle.audit.specs.Models.{terms_listed}
use Rattle.audit.proofs.models.terms_listed.Goals as goal

pub returns : goal.returns
unfolding terms_listed
returns c = all_in_range _ 3 c.args.m.now.count c.all.ensures.ran refl (λ x b q k. search (rules, tests))
