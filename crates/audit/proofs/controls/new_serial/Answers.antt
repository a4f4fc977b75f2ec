-- `audit::controls::new_serial` meets its contract: `all` over the numbers is the test on each of them.
use Rattle.std.proofs.Common.{rules, refl}
use borrow.Author.Tests.{tests}
use Rattle.terms.proofs.Chains.{all_below}
use Rattle.audit.specs.Configuration.{new_serial}
use Rattle.audit.proofs.controls.new_serial.Goals as goal

pub returns : goal.returns
unfolding new_serial
returns c = all_below _ c.args.i c.all.ensures.ran refl (λ x b q k. search (rules, tests))
