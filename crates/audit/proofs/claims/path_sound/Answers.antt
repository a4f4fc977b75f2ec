-- `audit::claims::path_sound` meets its contract: `all` over the places of the array is the test on each of them.
use Rattle.std.proofs.Common.{rules}
use lib.Dec.{ltb}
use borrow.Author.Tests.{tests}
use Rattle.terms.proofs.Chains.{all_places}
use Rattle.audit.specs.Claims.{path_sound, path_program}
use Rattle.audit.proofs.claims.path_sound.Goals as goal

pub returns : goal.returns
unfolding path_sound
returns c =
    all_places (λ i p. path_program p (ltb i c.args.length) c.args.programs) c.args.path.now 4 0
    c.all.ensures.ran (cc) (cc) c.told-path (λ x b q k. search (rules, tests))
