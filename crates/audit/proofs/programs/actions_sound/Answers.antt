-- `audit::programs::actions_sound` meets its contract: `all` over the numbers is the test on each of them.
use Rattle.std.proofs.Common.{rules, refl}
use borrow.Author.Tests.{tests}
use Rattle.terms.proofs.Chains.{all_below}
use Rattle.audit.specs.Programs.{actions_sound}
use Rattle.audit.proofs.programs.actions_sound.Goals as goal

pub returns : goal.returns
unfolding actions_sound
returns c = all_below _ 16 c.all.ensures.ran refl (λ x b q k. search (rules, tests))
