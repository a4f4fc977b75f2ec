-- `audit::controls::leaves_sound` meets its contract: `all` over the numbers is the test on each of them.
use Rattle.std.proofs.Common.{rules, refl}
use borrow.Author.Tests.{tests}
use Rattle.terms.proofs.Chains.{all_below}
use Rattle.audit.specs.Configuration.{leaves_sound}
use Rattle.audit.proofs.controls.leaves_sound.Goals as goal

pub returns : goal.returns
unfolding leaves_sound
returns c = all_below _ c.args.s.now.count c.all.ensures.ran refl (λ x b q k. search (rules, tests))
