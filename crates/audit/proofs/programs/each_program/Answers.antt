-- `audit::programs::each_program` meets its contract: `all` over the numbers is the test on each of them.
use Rattle.std.proofs.Common.{rules, refl}
use borrow.Author.Tests.{tests}
use Rattle.terms.proofs.Chains.{all_below}
use Rattle.audit.specs.Programs.{each_program}
use Rattle.audit.proofs.programs.each_program.Goals as goal

pub returns : goal.returns
unfolding each_program
returns c = all_below _ 32 c.all.ensures.ran refl (λ x b q k. search (rules, tests))
