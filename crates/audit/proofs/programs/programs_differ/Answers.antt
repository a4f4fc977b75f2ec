-- `audit::programs::programs_differ` meets its contract: `all` over the numbers is the test on each of them.
use Rattle.std.proofs.Common.{rules, refl}
use borrow.Author.Tests.{tests}
use Rattle.terms.proofs.Chains.{all_below}
use Rattle.audit.specs.Programs.{programs_differ}
use Rattle.audit.proofs.programs.programs_differ.Goals as goal

pub returns : goal.returns
unfolding programs_differ
returns c = all_below _ c.args.m.now.programs c.all.ensures.ran refl (λ x b q k. search (rules, tests))
