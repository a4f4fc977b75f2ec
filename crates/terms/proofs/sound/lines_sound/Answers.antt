-- `terms::sound::lines_sound` meets its contract: each line is tested.
use Rattle.std.proofs.Common.{rules, refl}
use borrow.Author.Tests.{tests}
use Rattle.terms.proofs.Chains.{all_below}
use Rattle.terms.proofs.sound.lines_sound.Goals as goal

pub returns : goal.returns
returns c = all_below _ c.args.count c.all.ensures.ran refl (λ x b q k. search (rules, tests))
